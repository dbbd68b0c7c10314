use Rattle.std.proofs.Common.{◌≡◌, filter}
use Rattle.std.specs.List.{range_with_len}
use Rattle.chord_scenario.specs.World.{is_initial}
use Rattle.chord_node.proofs.ring.members_at_start.Given as goal

abbrev pub invariant-loop-node : goal.invariant-loop-node
invariant-loop-node l = l.nodes.items ≡ filter (is_initial l.scenario) (range_with_len 0 l.node)
