-- How the parts get what a run starts with.
use Rattle.std.specs.Prelude.{◌≡◌, ◌↔◌, ◌<◌, ◌++◌, ◌==◌, ℕ, suc, if◌then◌else◌, List, [], ◌∷◌, Option, None, Some, length, slice_index_or}
use Rattle.std.specs.List.{Contains}
use Rattle.des_event.specs.declared.event.Event.{Event}
use Rattle.des_event.specs.KeyOrder.{InKeyOrder}
use Rattle.des_model.specs.Windows.{Division, part_of}
use Rattle.des_queue.specs.EventKey.{event_key}
use Rattle.des_team.specs.declared.part.OwnedPart.{OwnedPart}
use Rattle.des_team.specs.declared.part.Parcel.{Parcel}
use Rattle.des_team.specs.Mail.{all_of}
use Rattle.des_team.specs.Outputs.{IsText}
use Rattle.des_team.specs.Owned.{AreApart}

module _ {M State Body Piece S : Type 0} where
  -- the part has no states and no events, and a list for each part
  pub record IsEmptyPart (HasCounted : List Piece → S → Type 0) (parts part : ℕ) (p : OwnedPart M S State Body Piece) : Type 0 where
    pub part_is : p.part ≡ part
    pub no_states : p.states.items ≡ []
    pub none_pending : p.pending ≡ []
    pub out_long : length p.outbox ≡ parts
    pub none_in : p.inbox ≡ []
    pub none_out : all_of p.outbox ≡ []
    pub none_made : p.made.items ≡ []
    pub none_counted : HasCounted [] p.scribe

  -- these are the first n parts, which have no states and no events
  pub record AreEmptyParts (HasCounted : List Piece → S → Type 0) (parts n : ℕ) (ps : List (OwnedPart M S State Body Piece)) : Type 0 where
    pub long : length ps ≡ n
    pub each : (p : ℕ) (o : OwnedPart M S State Body Piece) → p < n → IsEmptyPart HasCounted parts p (slice_index_or ps p o)

module _ {State : Type 0} where
  -- of the states of the nodes from one on, those of a part
  abbrev pub states_for : Division → (part node : ℕ) → List State → List State
  states_for d part node [] = []
  states_for d part node (s ∷ ss) = let rest = states_for d part (suc node) ss in if part_of d node == part then s ∷ rest else rest

module _ {M State Body Piece S : Type 0} where
  -- of these states the part has those of its own nodes, after those that it had
  pub record HasStates (d : Division) (part : ℕ) (states : List State) (old new : OwnedPart M S State Body Piece) : Type 0 where
    pub states_are : new.states.items ≡ old.states.items ++ states_for d part 0 states
    pub others : new ≡ record old { states = new.states }

  -- each part has the states of its own nodes added after those that it had, and is otherwise unchanged
  pub record HaveStates (d : Division) (states : List State) (old new : List (OwnedPart M S State Body Piece)) : Type 0 where
    pub long : length new ≡ length old
    pub each : (p : ℕ) (o : OwnedPart M S State Body Piece) → p < length old → HasStates d p states (slice_index_or old p o) (slice_index_or new p o)

  -- of these events those for the part's own nodes are pending; the rest is still to come
  pub record HasEvents (d : Division) (part : ℕ) (sent rest : List (Event Body)) (old new : OwnedPart M S State Body Piece) : Type 0 where
    pub same : (x : Event Body) → Contains new.pending x ↔ (Contains sent x × (part_of d x.target ≡ part))
    pub ordered : InKeyOrder event_key new.pending
    pub apart : AreApart (new.pending ++ rest)
    pub others : new ≡ record old { pending = new.pending }

  -- each event that was dealt out is pending at the part of its target, and no part has any other event pending
  pub record HaveEvents (d : Division) (sent rest : List (Event Body)) (old new : List (OwnedPart M S State Body Piece)) : Type 0 where
    pub long : length new ≡ length old
    pub each : (p : ℕ) (o : OwnedPart M S State Body Piece) → p < length old → HasEvents d p sent rest (slice_index_or old p o) (slice_index_or new p o)

  -- the parcel of a part, without a text
  pub record IsParcelOf (part : OwnedPart M S State Body Piece) (parcel : Parcel M S State Body Piece) : Type 0 where
    pub part_is : parcel.part.value ≡ part
    pub no_text : IsText [] parcel.output

  -- each part is in a parcel at the place of its number, without a text
  pub record AreParcelsOf (parts : List (OwnedPart M S State Body Piece)) (parcels : List (Option (Parcel M S State Body Piece))) : Type 0 where
    pub long : length parcels ≡ length parts
    pub each : (p : ℕ) (o : OwnedPart M S State Body Piece) → p < length parts
        → (parcel : Parcel M S State Body Piece) × (slice_index_or parcels p None ≡ Some parcel) × IsParcelOf (slice_index_or parts p o) parcel
