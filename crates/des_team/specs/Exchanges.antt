-- How the results of a window come together.
use Rattle.std.specs.Prelude.{◌≡◌, ◌⊎◌, ◌<◌, ◌≤◌, ◌++◌, ℕ, List, [], ◌∷◌, Option, None, Some, map, length, slice_index_or, take}
use Rattle.des_event.specs.declared.event.Event.{Event}
use Rattle.des_window.specs.Openings.{sooner}
use Rattle.des_team.specs.declared.output.Output.{Output}
use Rattle.des_team.specs.declared.part.Done.{Done}
use Rattle.des_team.specs.declared.part.OwnedPart.{OwnedPart}
use Rattle.des_team.specs.declared.part.Parcel.{Parcel}
use Rattle.des_team.specs.Mail.{all_of}
use Rattle.des_team.specs.Outputs.{IsText}
use Rattle.des_team.specs.Owned.{with_part}

module _ {M State Body Piece S : Type 0} where
  -- the texts of results
  abbrev pub outputs_of : List (Done M S State Body Piece) → List Output
  outputs_of fs = map (λ (f : Done M S State Body Piece). f.parcel.output) fs

  -- the earliest of the times of the next events
  abbrev pub soonest : Option ℕ → List (Done M S State Body Piece) → Option ℕ
  soonest least [] = least
  soonest least (f ∷ fs) = soonest (sooner least f.next) fs

  -- the part of a result is here, without its text
  abbrev pub IsBack : OwnedPart M S State Body Piece → Option (Parcel M S State Body Piece) → Type 0
  IsBack part place = (parcel : Parcel M S State Body Piece) × (place ≡ Some parcel) × (parcel.part.value ≡ part) × IsText [] parcel.output

  -- the part of each result is back at the place of its number, with an empty text; other places may hold anything
  abbrev pub AreBack : List (Done M S State Body Piece) → List (Option (Parcel M S State Body Piece)) → Type 0
  AreBack fs parcels = (p : ℕ) (f : Done M S State Body Piece) → p < length fs
      → IsBack (slice_index_or fs p f).parcel.part.value (slice_index_or parcels p None)

  -- nothing but the text of the parcel is another one, which is empty
  abbrev pub HasOnlyOutput : Option (Parcel M S State Body Piece) → Option (Parcel M S State Body Piece) → Type 0
  HasOnlyOutput None new = new ≡ None
  HasOnlyOutput (Some old) new = (parcel : Parcel M S State Body Piece) × (new ≡ Some parcel) × (parcel.part.value ≡ old.part.value) × IsText [] parcel.output

  -- the place is as it was, or its text was cleared
  abbrev pub IsAlikeOrCleared : Option (Parcel M S State Body Piece) → Option (Parcel M S State Body Piece) → Type 0
  IsAlikeOrCleared old new = (new ≡ old) ⊎ HasOnlyOutput old new

  -- the part of a place, if it is here, has these events in its inbox besides
  abbrev pub given : List (Event Body) → Option (Parcel M S State Body Piece) → Option (Parcel M S State Body Piece)
  given mail None = None
  given mail (Some parcel) = Some (with_part parcel (record parcel.part.value { inbox = parcel.part.value.inbox ++ mail }))

  -- each part has got its list
  pub record HaveDelivered (lists : List (List (Event Body))) (old new : List (Option (Parcel M S State Body Piece))) : Type 0 where
    pub long : length new ≡ length old
    pub each : (p : ℕ) → p < length old → slice_index_or new p None ≡ given (slice_index_or lists p []) (slice_index_or old p None)

  -- what the parts have for one of them
  abbrev pub mail_for : (part : ℕ) → List (Option (Parcel M S State Body Piece)) → List (Event Body)
  mail_for part [] = []
  mail_for part (None ∷ places) = mail_for part places
  mail_for part (Some parcel ∷ places) = slice_index_or parcel.part.value.outbox part [] ++ mail_for part places

  -- the part has a list for each part, none for itself, and nothing to take in
  pub record IsReady (parts p : ℕ) (part : OwnedPart M S State Body Piece) : Type 0 where
    pub out_long : length part.outbox ≡ parts
    pub none_in : part.inbox ≡ []
    pub none_own : slice_index_or part.outbox p [] ≡ []

  -- all parts are here and ready to exchange mail: none has anything in its inbox, and none has made mail for itself
  abbrev pub AreReady : List (Option (Parcel M S State Body Piece)) → Type 0
  AreReady parcels = (p : ℕ) → p < length parcels → (parcel : Parcel M S State Body Piece) × (slice_index_or parcels p None ≡ Some parcel)
      × IsReady (length parcels) p parcel.part.value

  -- the part has received what the first n parts had for it, and has handed over what it had if it is one of them
  pub record HasExchanged (n p : ℕ) (old : List (Option (Parcel M S State Body Piece))) (before after : Parcel M S State Body Piece) : Type 0 where
    pub same : after ≡ with_part before (record before.part.value { inbox = after.part.value.inbox; outbox = after.part.value.outbox })
    pub out_long : length after.part.value.outbox ≡ length old
    pub received : after.part.value.inbox ≡ mail_for p (take n old)
    pub sent : p < n → all_of after.part.value.outbox ≡ []
    pub to_send : n ≤ p → after.part.value.outbox ≡ before.part.value.outbox

  -- the first n parts have handed over what they had
  pub record HaveExchangedTo (n : ℕ) (old new : List (Option (Parcel M S State Body Piece))) : Type 0 where
    pub long : length new ≡ length old
    pub each : (p : ℕ) (before : Parcel M S State Body Piece) → p < length old → slice_index_or old p None ≡ Some before
        → (after : Parcel M S State Body Piece) × (slice_index_or new p None ≡ Some after) × HasExchanged n p old before after

  -- the exchange of mail after a window is complete: each part has in its inbox what all parts had for it, and no
  -- part has anything left to send
  abbrev pub HaveExchanged : List (Option (Parcel M S State Body Piece)) → List (Option (Parcel M S State Body Piece)) → Type 0
  HaveExchanged old new = HaveExchangedTo (length old) old new
