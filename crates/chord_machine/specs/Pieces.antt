-- The pieces of a trace.
use Rattle.std.specs.Prelude.{◌≤◌, length, ⊤}
use Rattle.chord_scenario.specs.Blocks.{IsBlockOf, most_lines}
use Rattle.chord_scenario.specs.declared.scenario.Scenario.{Scenario}
use Rattle.chord_trace.specs.declared.piece.Piece.{Piece}
use Rattle.chord_trace.specs.declared.piece.Piece.TheVariants as piece

-- the nodes of a block are those of the scenario, and its lines are few
abbrev pub IsKnownPiece : Scenario → Piece → Type 0
IsKnownPiece sc (piece.OfEvent block) = IsBlockOf sc block × (length block.lines ≤ most_lines)
IsKnownPiece sc (piece.OfAudit audit) = ⊤
