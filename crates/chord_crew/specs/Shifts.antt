-- What a worker does in a window.
use Rattle.std.specs.Prelude.{ℕ}
use Rattle.chord_machine.specs.Chord.{chord}
use Rattle.chord_machine.specs.Run.{HasTooManyEvents}
use Rattle.chord_scenario.specs.declared.scenario.Scenario.{Scenario}
use Rattle.chord_window.specs.declared.part_done.Done.{Done}
use Rattle.chord_window.specs.declared.world.World.{World}
use Rattle.chord_window.specs.PartRuns.{IsDone}
use Rattle.des_crew.specs.declared.shift.Shift.{Shift}
use Rattle.des_crew.specs.Seats.{Counter, SeatState}
use Rattle.des_crew.specs.Shifts.{IsShift as IsShiftOf}
use Rattle.des_crew.specs.Worlds.{IsWindowOf as IsWindowOfKernel}

-- the counter deals the parts of the world's next window, which ends at the horizon
abbrev pub IsWindowOf : Scenario → World → (horizon : ℕ) → Counter → Type 0
IsWindowOf sc w horizon draws = IsWindowOfKernel (chord sc) w.kernel horizon draws

-- A worker without a fault knows of the end, and has what each part that it drew leaves, in the order of its draws. A
-- worker with a fault has it of all its parts but the last.
abbrev pub IsShift : Scenario → World → (horizon : ℕ) → SeatState → Shift Done → Type 0
IsShift sc w horizon seat shift = IsShiftOf (IsDone sc w horizon) (HasTooManyEvents sc) seat shift
