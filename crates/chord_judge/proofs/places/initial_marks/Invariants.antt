use Rattle.std.proofs.Common.{◌≡◌, map}
use Rattle.std.specs.List.{range_with_len}
use Rattle.chord_scenario.specs.World.{is_initial}
use Rattle.chord_judge.proofs.places.initial_marks.Given as goal

abbrev pub invariant-loop-node : goal.invariant-loop-node
invariant-loop-node l = l.marks.items ≡ map (is_initial l.scenario) (range_with_len 0 l.node)
