use Rattle.std.proofs.Common.{◌≡◌, map, take}
use Rattle.chord_circle.specs.Circle.{leading}
use Rattle.chord_scenario.proofs.node.leading_bits.Given as goal

abbrev pub invariant-loop-node : goal.invariant-loop-node
invariant-loop-node l = l.leading.items ≡ map (λ n. leading l.circle n.ident) (take l.node-index l.nodes)
