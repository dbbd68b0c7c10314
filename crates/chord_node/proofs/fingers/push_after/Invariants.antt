use Rattle.std.proofs.Common.{◌≡◌, ◌++◌, drop}
use Rattle.chord_node.specs.Fingers.{expanded}
use Rattle.chord_node.proofs.fingers.push_after.Given as goal

abbrev pub invariant-loop-run : goal.invariant-loop-run
invariant-loop-run l =
    expanded l.runs.items ++ drop l.left (expanded (drop l.run-index l.others)) ≡ expanded l.initial.runs.items ++ drop l.count (expanded l.others)
