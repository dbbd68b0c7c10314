-- Runs whose workers take their steps in turn.
use Rattle.std.specs.Prelude.{◌≡◌, ◌++◌, ℕ, List, [], map, Result, Ok, Err}
use Rattle.des_event.specs.declared.error.RunError.{RunError}
use Rattle.des_event.specs.declared.event.Event.{Event}
use Rattle.des_model.specs.Histories.{history}
use Rattle.des_model.specs.Schedules.{Goes, begun}
use Rattle.des_model.specs.Windows.{Division, Step}
use Rattle.des_picks.specs.declared.step.Taken.{Taken}
use Rattle.des_picks.specs.Picked.{shown}
use Rattle.des_model.specs.Machine.{Machine}

module _ {State Body Piece : Type 0} where
  -- these are the steps of the window machine under the picks, from the first window to the end of the run
  pub record AreStepsOf (m : Machine State Body Piece) (d : Division) (workers : ℕ) (picks : List ℕ) (taken : List Taken) : Type 0 where
    pub steps : List (ℕ × Step Body)
    pub told : taken ≡ map shown steps
    pub history_left : List (Event Body)
    pub goes : Goes m (λ _. d) workers (begun m 0 []) picks steps history_left

  -- these are the steps of the window machine under the picks, up to the first `count` events of the run, and these
  -- picks are left
  pub record HasCome (m : Machine State Body Piece) (d : Division) (workers : ℕ) (picks rest : List ℕ) (count : ℕ) (taken : List Taken) : Type 0 where
    pub number : ℕ
    pub steps : List (ℕ × Step Body)
    pub told : taken ≡ map shown steps
    pub leads : (more : List (ℕ × Step Body)) (h : List (Event Body)) → Goes m (λ _. d) workers
        (begun m number (history m count)) rest more h
        → Goes m (λ _. d) workers (begun m 0 []) picks (steps ++ more) h

-- the result without the steps
abbrev pub report_in : {Report S : Type 0} → Result (Report × S) RunError → Result Report RunError
report_in (Ok run) = Ok run.0
report_in (Err error) = Err error
