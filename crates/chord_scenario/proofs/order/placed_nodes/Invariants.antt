use Rattle.std.proofs.Common.{◌≡◌, map}
use Rattle.std.specs.List.{range_with_len}
use Rattle.chord_scenario.specs.Order.{placed}
use Rattle.chord_scenario.proofs.order.placed_nodes.Given as goal

abbrev pub invariant-loop-node : goal.invariant-loop-node
invariant-loop-node l = l.order.items ≡ map (placed l.nodes) (range_with_len 0 l.node)
