use Rattle.std.proofs.Common.{◌≡◌, drop}
use Rattle.std.specs.Prelude.{slice_get}
use Rattle.chord_node.specs.Fingers.{expanded}
use Rattle.chord_node.proofs.fingers.node_at.Given as goal

abbrev pub invariant-loop-run : goal.invariant-loop-run
invariant-loop-run l = slice_get (expanded (drop l.run-index l.runs)) l.left ≡ slice_get (expanded l.runs) l.index
