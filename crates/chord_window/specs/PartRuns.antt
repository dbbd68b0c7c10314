-- The run of a part.
use Rattle.std.specs.Prelude.{ℕ}
use Rattle.chord_event.specs.declared.block.Block.{Block}
use Rattle.chord_machine.specs.Chord.{chord}
use Rattle.chord_machine.specs.Pieces.{IsKnownPiece}
use Rattle.chord_scenario.specs.declared.scenario.Scenario.{Scenario}
use Rattle.chord_trace.specs.declared.piece.Piece.TheVariants as piece
use Rattle.chord_window.specs.declared.part_done.Done.{Done}
use Rattle.chord_window.specs.declared.world.World.{World}
use Rattle.chord_window.specs.Dones.{IsSame, RingDone}
use Rattle.des_parts.specs.PartRuns.{IsDone as IsKernelDone, IsHorizon as IsKernelHorizon, IsNextWindow as IsNextKernelWindow}

-- the world's next window ends here
abbrev pub IsHorizon : World → (horizon : ℕ) → Type 0
IsHorizon w horizon = IsKernelHorizon w.kernel horizon

-- the world is one of the scenario, and its next window ends at the horizon
abbrev pub IsNextWindow : Scenario → World → (horizon : ℕ) → Type 0
IsNextWindow sc w horizon = IsNextKernelWindow (chord sc) w.kernel horizon

-- the part has run all its events below the horizon, and this is what they leave
abbrev pub IsDone : Scenario → World → (horizon part : ℕ) → Done → Type 0
IsDone sc w horizon part done = (kernel : RingDone) × IsSame done kernel × IsKernelDone (chord sc) (IsKnownPiece sc) w.kernel horizon part kernel

-- a block of the scenario, of few lines
abbrev pub IsShortBlock : Scenario → Block → Type 0
IsShortBlock sc block = IsKnownPiece sc (piece.OfEvent block)
