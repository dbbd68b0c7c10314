use Rattle.std.proofs.Common.{take}
use Rattle.chord_node.specs.Fingers.{expanded}
use Rattle.chord_node.specs.Invariant.{AllNodes}
use Rattle.chord_examples.proofs.tests.searches.are_fingers_known.Given as goal

abbrev pub invariant-loop-run : goal.invariant-loop-run
invariant-loop-run l = AllNodes l.scenario (expanded (take l.run-index l.runs))
