use Rattle.std.proofs.Common.{◌≡◌, map}
use Rattle.std.specs.List.{range_with_len}
use Rattle.chord_node.specs.Ring.{never_up}
use Rattle.chord_node.proofs.ring.all_down.Given as goal

abbrev pub invariant-loop-node : goal.invariant-loop-node
invariant-loop-node l = l.states.items ≡ map never_up (range_with_len 0 l.node)
