-- Where a run by a team has come to.
use Rattle.std.specs.Prelude.{◌≡◌, ◌+◌, ◌<◌, ◌≤◌, ◌++◌, ℕ, List, [], ◌∷◌, Option, None, Some, option_map, if◌then◌else◌, nat_le, nat_lt, map, length, slice_index_or, IfSome}
use Rattle.std.specs.List.{filter, flat_map}
use Rattle.std.specs.List.Sorted.{IsPermutation}
use Rattle.des_event.specs.declared.event.Event.{Event}
use Rattle.des_model.specs.Histories.{history, next, audit_at, open_audits, output}
use Rattle.des_model.specs.Machine.{Machine}
use Rattle.des_model.specs.Worlds.{event_pieces}
use Rattle.des_machine.specs.Runs.{Writes}
use Rattle.des_window.specs.Openings.{opening_after}
use Rattle.des_team.specs.Chronicles.{Chronicle}
use Rattle.des_team.specs.declared.layout.Layout.{Layout}
use Rattle.des_team.specs.declared.part.Done.{Done}
use Rattle.des_team.specs.declared.part.Parcel.{Parcel}
use Rattle.des_team.specs.declared.team.Team.{Team}
use Rattle.des_team.specs.Layouts.{IsLayout}
use Rattle.des_team.specs.Outputs.{IsText}
use Rattle.des_team.specs.Owned.{HasSentAll, IsOwned}

-- the time, if it is before the end
abbrev pub before_end : ℕ → Option ℕ → Option ℕ
before_end duration None = None
before_end duration (Some t) = if nat_lt t duration then Some t else None

module _ {State Body Piece : Type 0} where
  -- the audits that are due at a time, after these events
  abbrev pub audits_due : Machine State Body Piece → List (Event Body) → (time : ℕ) → List Piece
  audits_due m h time = map (audit_at m h) (filter (λ t. nat_le t time) (open_audits m h))

module _ {State Body Piece S : Type 0} where
  -- the scribe has counted the audits among the output of these events, and then some more; what is left of the output are
  -- the pieces of the events
  pub record HasAudited (ch : Chronicle State Body Piece S) (h : List (Event Body)) (more : List Piece) (scribe : S) : Type 0 where
    pub audits : List Piece
    pub counted : ch.HasCounted (audits ++ more) scribe
    pub rest : IsPermutation (output ch.machine h) (audits ++ event_pieces ch.machine h)

module _ {M State Body Piece S : Type 0} where
  -- how many events the parts ran together
  abbrev pub events_in : List (Done M S State Body Piece) → ℕ
  events_in [] = 0
  events_in (f ∷ fs) = f.events + events_in fs

  -- the part is here, as the first events of the run leave it
  pub record IsHere (ch : Chronicle State Body Piece S) (l : Layout) (h : List (Event Body)) (part : ℕ) (parcel : Parcel M S State Body Piece) : Type 0 where
    pub part_is : parcel.part.value.part ≡ part
    pub owned : IsOwned ch l h parcel.part.value
    pub none_sent : HasSentAll parcel.part.value
    pub no_text : IsText [] parcel.output

  -- no part is with a worker: each is in its place, as the first events of the run leave it
  abbrev pub AreHere : Chronicle State Body Piece S → Layout → List (Event Body) → List (Option (Parcel M S State Body Piece)) → Type 0
  AreHere ch l h parcels = (p : ℕ) → p < l.division.parts
      → (parcel : Parcel M S State Body Piece) × (slice_index_or parcels p None ≡ Some parcel) × IsHere ch l h p parcel

  -- the first `count` events of the run are done, the parts are here, and all that they put out is written
  pub record IsTeam (ch : Chronicle State Body Piece S) (l : Layout) (old now : Option (List ℕ)) (t : Team M S State Body Piece) : Type 0 where
    pub layout : IsLayout ch.machine.nodes l
    pub within : t.count ≤ ch.machine.max_events
    pub long : length (history ch.machine t.count) ≡ t.count
    pub parcels_long : length t.parcels.items ≡ l.division.parts
    pub here : AreHere ch l (history ch.machine t.count) t.parcels.items
    pub next_is : option_map (λ (e : Event Body). e.key.time) (next ch.machine (history ch.machine t.count)) ≡ before_end ch.machine.duration t.next
    pub audits : t.journal.clock ≡ open_audits ch.machine (history ch.machine t.count)
    pub written : Writes ch.text old now (output ch.machine (history ch.machine t.count))
    pub audited : HasAudited ch (history ch.machine t.count) [] t.journal.scribe

  -- the next window is open, and each part that is here may be sent to a worker
  pub record CanSend (ch : Chronicle State Body Piece S) (l : Layout) (t : Team M S State Body Piece) : Type 0 where
    pub layout : IsLayout ch.machine.nodes l
    pub within : t.count ≤ ch.machine.max_events
    pub long : length (history ch.machine t.count) ≡ t.count
    pub opens : opening_after ch.machine (history ch.machine t.count) ≡ Some t.window
    pub parcels_long : length t.parcels.items ≡ l.division.parts
    pub here : (p : ℕ) → p < l.division.parts → IfSome (slice_index_or t.parcels.items p None) (IsHere ch l (history ch.machine t.count) p)

  -- the next window is open: the audits that are due by its first time are made, and not yet written
  pub record IsOpened (ch : Chronicle State Body Piece S) (l : Layout) (old now : Option (List ℕ)) (t : Team M S State Body Piece) : Type 0 where
    pub can_send : CanSend ch l t
    pub due_is : t.due.items ≡ flat_map ch.text (audits_due ch.machine (history ch.machine t.count) t.window.time)
    pub audits : t.journal.clock ≡ filter (λ a. nat_lt t.window.time a) (open_audits ch.machine (history ch.machine t.count))
    pub written : Writes ch.text old now (output ch.machine (history ch.machine t.count))
    pub audited : HasAudited ch (history ch.machine t.count) (audits_due ch.machine (history ch.machine t.count) t.window.time) t.journal.scribe
