use Rattle.std.proofs.Common.{◌≡◌, ◌++◌, drop, take}
use Rattle.chord_node.specs.Fingers.{expanded}
use Rattle.chord_node.proofs.fingers.push_first.Given as goal

abbrev pub invariant-loop-run : goal.invariant-loop-run
invariant-loop-run l =
    expanded l.runs.items ++ take l.left (expanded (drop l.run-index l.others)) ≡ expanded l.initial.runs.items ++ take l.count (expanded l.others)
