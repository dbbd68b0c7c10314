-- What goes to the workers and what comes back.
use Rattle.std.specs.Prelude.{◌≡◌, ◌≢◌, ◌⊎◌, ◌+◌, ◌<◌, ◌≤◌, ◌++◌, ◌↔◌, ℕ, suc, List, [], ◌∷◌, Option, None, Some, IfNone, IfSome, length, slice_index_or, ⊤}
use Rattle.std.specs.List.{All, Contains}
use Rattle.des_event.specs.declared.event.Event.{Event}
use Rattle.des_event.specs.declared.error.RunError.{RunError}
use Rattle.des_event.specs.declared.error.RunError.TheVariants as run
use Rattle.des_model.specs.Histories.{IsOverLimit, history}
use Rattle.des_model.specs.Machine.{Machine}
use Rattle.des_model.specs.Windows.{part_of, IsSealedRun, made_since, pieces_since}
use Rattle.des_window.specs.Openings.{opening_after}
use Rattle.des_team.specs.Chronicles.{Chronicle}
use Rattle.des_team.specs.Entries.{entries_of}
use Rattle.des_team.specs.declared.layout.Layout.{Layout}
use Rattle.des_team.specs.declared.output.Output.{Output}
use Rattle.des_team.specs.declared.part.OwnedPart.{OwnedPart}
use Rattle.des_team.specs.declared.part.Parcel.{Parcel}
use Rattle.des_team.specs.declared.part.Done.{Done}
use Rattle.des_team.specs.Layouts.{IsLayout}
use Rattle.des_team.specs.Mail.{all_of}
use Rattle.des_team.specs.Outputs.{IsText}
use Rattle.des_team.specs.Owned.{AreApart, HasSentAll, HasTakenAll, IsOwned, LeastTimeIs}
use Rattle.des_team.specs.Running.{ran_first}

module _ {State Body Piece : Type 0} where
  -- the next window after so many events ends at the horizon
  abbrev pub OpensTo : Machine State Body Piece → (count horizon : ℕ) → Type 0
  OpensTo m count horizon = (time : ℕ) × (opening_after m (history m count) ≡ Some (record { time = time; horizon = horizon }))

module _ {M State Body Piece S : Type 0} where
  -- the part may run its window: it has what the first events of the run leave it, and nothing else
  pub record MayRun (ch : Chronicle State Body Piece S) (l : Layout) (count horizon : ℕ) (p : OwnedPart M S State Body Piece) (o : Output) : Type 0 where
    pub layout : IsLayout ch.machine.nodes l
    pub within : count ≤ ch.machine.max_events
    pub long : length (history ch.machine count) ≡ count
    pub opens : OpensTo ch.machine count horizon
    pub owned : IsOwned ch l (history ch.machine count) p
    pub none_sent : HasSentAll p
    pub no_text : IsText [] o

  -- the part of the parcel may run its window, which the parcel names
  abbrev pub IsOrder : Chronicle State Body Piece S → Layout → Parcel M S State Body Piece → Type 0
  IsOrder ch l o = MayRun ch l o.count o.horizon o.part.value o.output

  -- the order of this part for this window
  pub record IsOrderOf (ch : Chronicle State Body Piece S) (l : Layout) (part count horizon : ℕ) (o : Parcel M S State Body Piece) : Type 0 where
    pub part_is : o.part.value.part ≡ part
    pub count_is : o.count ≡ count
    pub horizon_is : o.horizon ≡ horizon
    pub order : IsOrder ch l o

  -- the part has run its window: it has the states and the events that are left to it, what it made for others, and its text
  pub record HasRunAll (ch : Chronicle State Body Piece S) (l : Layout) (count horizon n : ℕ) (next : Option ℕ) (p : OwnedPart M S State Body Piece)
      (o : Output) : Type 0 where
    pub sealed : IsSealedRun ch.machine l.division (history ch.machine count) horizon p.part (ran_first ch.machine l count horizon p.part n)
    pub long : length (ran_first ch.machine l count horizon p.part n) ≡ n
    pub within : count + n ≤ ch.machine.max_events
    pub owned : IsOwned ch l (ran_first ch.machine l count horizon p.part n ++ history ch.machine count) p
    pub taken_in : HasTakenAll p
    pub sent : (q : ℕ) (v : List (Event Body)) (x : Event Body) → q < l.division.parts
        → Contains (slice_index_or p.outbox q v) x
        ↔ (Contains (made_since ch.machine (history ch.machine count) (ran_first ch.machine l count horizon p.part n)) x × (part_of l.division x.target ≡ q)
        × (q ≢ p.part))
    pub sent_apart : (q : ℕ) (v : List (Event Body)) → q < l.division.parts → AreApart (slice_index_or p.outbox q v)
    pub next_is : LeastTimeIs (p.pending ++ all_of p.outbox) next
    pub text_is : IsText (entries_of ch.text (pieces_since ch.machine (history ch.machine count) (ran_first ch.machine l count horizon p.part n))) o

  -- the part of the result has run its window
  abbrev pub HasRun : Chronicle State Body Piece S → Layout → Done M S State Body Piece → Type 0
  HasRun ch l f = HasRunAll ch l f.parcel.count f.parcel.horizon f.events f.next f.parcel.part.value f.parcel.output

module _ {State Body Piece : Type 0} where
  -- a fault that the run may have: memory, or too many events
  abbrev pub IsFault : Machine State Body Piece → RunError → Type 0
  IsFault m e = (e ≡ run.Memory) ⊎ ((e ≡ run.TooManyEvents) × IsOverLimit m)

module _ {M State Body Piece S : Type 0} where
  -- the result of a part's window: the part has run the window to its end, or there is a fault that the run may have,
  -- and nothing is known of the part
  pub record IsDone (ch : Chronicle State Body Piece S) (l : Layout) (f : Done M S State Body Piece) : Type 0 where
    pub ran : IfNone f.fault (HasRun ch l f)
    pub failed : IfSome f.fault (IsFault ch.machine)

  -- the result of this part in this window
  pub record IsResultOf (ch : Chronicle State Body Piece S) (l : Layout) (part count horizon : ℕ) (f : Done M S State Body Piece) : Type 0 where
    pub part_is : f.parcel.part.value.part ≡ part
    pub count_is : f.parcel.count ≡ count
    pub horizon_is : f.parcel.horizon ≡ horizon
    pub done : IsDone ch l f

  -- the results of the parts from this one on
  abbrev pub AreResultsFrom : Chronicle State Body Piece S → Layout → (count horizon part : ℕ) → List (Done M S State Body Piece) → Type 0
  AreResultsFrom ch l count horizon part [] = ⊤
  AreResultsFrom ch l count horizon part (f ∷ fs) = IsResultOf ch l part count horizon f × AreResultsFrom ch l count horizon (suc part) fs

  -- the results of all parts
  pub record AreResults (ch : Chronicle State Body Piece S) (l : Layout) (count horizon : ℕ) (fs : List (Done M S State Body Piece)) : Type 0 where
    pub long : length fs ≡ l.division.parts
    pub each : AreResultsFrom ch l count horizon 0 fs

  -- none of the results has a fault
  abbrev pub HaveNoFault : List (Done M S State Body Piece) → Type 0
  HaveNoFault fs = All (λ (f : Done M S State Body Piece). f.fault ≡ None) fs
