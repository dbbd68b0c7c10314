-- The joined results of the workers of a window.
use Rattle.std.specs.Prelude.{◌≡◌, ◌⊎◌, ◌+◌, ◌&&◌, ◌||◌, ◌++◌, ℕ, List, true, None, Some, Result, Err, IsOk, IfOk}
use Rattle.des_crew.specs.declared.joined_shift.JoinedShift.{JoinedShift}
use Rattle.des_crew.specs.declared.shift.Shift.{Shift}
use Rattle.des_crew.specs.Seats.{SeatState}
use Rattle.des_crew.specs.Shifts.{AreResults, IsPartFault, IsSameSeat}
use Rattle.des_event.specs.declared.error.RunError.{RunError}
use Rattle.des_event.specs.declared.error.RunError.TheVariants as run
use Rattle.des_parts.specs.Ordering.{HasEachOnce}

-- a window ends early if the run of a part does, or if a thread could not be started
abbrev pub IsWindowFault : (IsOver : Type 0) → RunError → Type 0
IsWindowFault IsOver fault = (fault ≡ run.Worker) ⊎ IsPartFault IsOver fault

-- the seat that two seats of one counter make
abbrev pub joined_seats : SeatState → SeatState → SeatState
joined_seats first second =
    record first {
      numbers = first.numbers ++ second.numbers;
      allowance = first.allowance + second.allowance;
      met_end = first.met_end || second.met_end;
      is_exhausted = first.is_exhausted && second.is_exhausted;
    }

module _ {Done : Type 0} where
  -- all workers know of the end, and have what each part that they drew leaves
  pub record IsJoinedShift (IsDone : ℕ → Done → Type 0) (seat : SeatState) (joined : JoinedShift Done) : Type 0 where
    pub same_seat : IsSameSeat seat joined.seat
    pub exhausted : joined.seat.is_exhausted ≡ true
    pub results : AreResults IsDone joined.seat.numbers joined.done.items

  -- what each part below the number leaves, each once, in some order
  pub record HasResults (IsDone : ℕ → Done → Type 0) (parts : ℕ) (dones : List Done) : Type 0 where
    pub numbers : List ℕ
    pub once : HasEachOnce parts numbers
    pub results : AreResults IsDone numbers dones

  -- a fault of the others or of one more worker; or there is no memory for what they leave together, and none of them has a fault
  abbrev pub IsFaultOf : Result (JoinedShift Done) RunError → Shift Done → RunError → Type 0
  IsFaultOf others shift fault = (others ≡ Err fault) ⊎ (shift.fault ≡ Some fault) ⊎ ((fault ≡ run.Memory) × IsOk others × (shift.fault ≡ None))

  -- the joined results of the others and one more worker, none of them with a fault
  pub record JoinsBoth (others : Result (JoinedShift Done) RunError) (shift : Shift Done) (whole : JoinedShift Done) : Type 0 where
    pub others_are : IsOk others
    pub no_fault : shift.fault ≡ None
    pub seat : IfOk others (λ o. whole.seat ≡ joined_seats o.seat shift.seat)
    pub done : IfOk others (λ o. whole.done.items ≡ o.done.items ++ shift.done.items)
