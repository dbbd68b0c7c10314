-- What a worker does in a window.
use Rattle.std.specs.Prelude.{◌≡◌, ◌⊎◌, ℕ, true, List, [], ◌∷◌, ◌++◌, ⊤, IfNone, IfSome}
use Rattle.des_crew.specs.declared.shift.Shift.{Shift}
use Rattle.des_crew.specs.Seats.{SeatState}
use Rattle.des_event.specs.declared.error.RunError.{RunError}
use Rattle.des_event.specs.declared.error.RunError.TheVariants as run

-- a seat as it was passed to a worker, and as it comes back
pub record IsSameSeat (before after : SeatState) : Type 0 where
  pub table : after.table ≡ before.table
  pub allowance : after.allowance ≡ before.allowance

-- why the run of a part may end early
abbrev pub IsPartFault : (IsOver : Type 0) → RunError → Type 0
IsPartFault IsOver fault = (fault ≡ run.Memory) ⊎ ((fault ≡ run.TooManyEvents) × IsOver)

-- `IsDone` says what a part leaves
module _ {Done : Type 0} (IsDone : ℕ → Done → Type 0) where
  -- what these parts leave, in this order
  abbrev pub AreResults : (parts : List ℕ) → List Done → Type 0
  AreResults [] [] = ⊤
  AreResults [] (done ∷ dones) = ⊥
  AreResults (part ∷ parts) [] = ⊥
  AreResults (part ∷ parts) (done ∷ dones) = IsDone part done × AreResults parts dones

  -- what these parts leave, except for the last
  pub record AreButLast (parts : List ℕ) (dones : List Done) : Type 0 where
    pub first : List ℕ
    pub last : ℕ
    pub parts_are : parts ≡ first ++ last ∷ []
    pub results : AreResults first dones

  -- A worker without a fault knows of the end, and has what each part that it drew leaves, in the order of its draws. A
  -- worker with a fault has it of all its parts but the last.
  pub record IsShift (IsOver : Type 0) (seat : SeatState) (shift : Shift Done) : Type 0 where
    pub same_seat : IsSameSeat seat shift.seat
    pub exhausted : IfNone shift.fault (shift.seat.is_exhausted ≡ true)
    pub finished : IfNone shift.fault (AreResults shift.seat.numbers shift.done.items)
    pub stopped : IfSome shift.fault (λ _. AreButLast shift.seat.numbers shift.done.items)
    pub fault : IfSome shift.fault (IsPartFault IsOver)
