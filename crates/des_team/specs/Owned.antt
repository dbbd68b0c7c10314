-- What a part of the nodes has.
use Rattle.std.specs.Prelude.{◌≡◌, ◌≢◌, ◌<◌, ◌≤◌, ◌++◌, ◌↔◌, ◌==◌, ℕ, List, [], ◌∷◌, Option, None, Some, if◌then◌else◌, length, slice_index_or}
use Rattle.std.specs.Box.{with_value}
use Rattle.std.specs.List.{AllPairs, Contains}
use Rattle.des_event.specs.declared.event.Event.{Event}
use Rattle.des_model.specs.Histories.{effect_after, pending, state}
use Rattle.des_model.specs.Machine.{Machine}
use Rattle.des_model.specs.Windows.{Division, part_of}
use Rattle.des_team.specs.Chronicles.{Chronicle}
use Rattle.des_team.specs.declared.layout.Layout.{Layout}
use Rattle.des_team.specs.declared.part.OwnedPart.{OwnedPart}
use Rattle.des_team.specs.declared.part.Parcel.{Parcel}
use Rattle.des_team.specs.Layouts.{slot_of}
use Rattle.des_team.specs.Mail.{all_of}

module _ {Body : Type 0} where
  -- no two events have one key
  abbrev pub AreApart : List (Event Body) → Type 0
  AreApart es = AllPairs (λ (a b : Event Body). a.key ≢ b.key) es

module _ {M State Body Piece S : Type 0} where
  -- all events that a part has
  abbrev pub events_of : OwnedPart M S State Body Piece → List (Event Body)
  events_of p = p.pending ++ p.inbox

module _ {State Body Piece : Type 0} where
  -- what the events of a part add to the trace, the oldest first
  abbrev pub share_of : Machine State Body Piece → Division → (part : ℕ) → List (Event Body) → List Piece
  share_of m d part [] = []
  share_of m d part (e ∷ h) =
      let rest = share_of m d part h in
      if part_of d e.target == part then rest ++ (effect_after m h e).piece ∷ [] else rest

module _ {M State Body Piece S : Type 0} where
  -- the part has the states of its nodes after these events, its pending events, each once, and its scribe has counted its events
  pub record IsOwned (ch : Chronicle State Body Piece S) (l : Layout) (h : List (Event Body)) (p : OwnedPart M S State Body Piece) : Type 0 where
    pub inside : p.part < l.division.parts
    pub places : (i : ℕ) → i < ch.machine.nodes → part_of l.division i ≡ p.part → slot_of l i < length p.states.items
    pub states_are : (i : ℕ) (s : State) → i < ch.machine.nodes → part_of l.division i ≡ p.part
        → slice_index_or p.states.items (slot_of l i) s ≡ state ch.machine h i
    pub same : (x : Event Body) → Contains (events_of p) x ↔ (Contains (pending ch.machine h) x × (part_of l.division x.target ≡ p.part))
    pub apart : AreApart (events_of p)
    pub out_long : length p.outbox ≡ l.division.parts
    pub none_made : p.made.items ≡ []
    pub counted : ch.HasCounted (share_of ch.machine l.division p.part h) p.scribe

  -- the parcel with another part in its box
  abbrev pub with_part : Parcel M S State Body Piece → OwnedPart M S State Body Piece → Parcel M S State Body Piece
  with_part parcel part = record parcel { part = with_value parcel.part part }

  -- nothing is on its way to other parts
  abbrev pub HasSentAll : OwnedPart M S State Body Piece → Type 0
  HasSentAll p = all_of p.outbox ≡ []

  -- nothing has come that was not taken in
  abbrev pub HasTakenAll : OwnedPart M S State Body Piece → Type 0
  HasTakenAll p = p.inbox ≡ []

module _ {Body : Type 0} where
  -- the least time of these events, if there is an event
  abbrev pub LeastTimeIs : List (Event Body) → Option ℕ → Type 0
  LeastTimeIs events None = events ≡ []
  LeastTimeIs events (Some t) = ((x : Event Body) → Contains events x → t ≤ x.key.time) × ((x : Event Body) × Contains events x × (x.key.time ≡ t))
