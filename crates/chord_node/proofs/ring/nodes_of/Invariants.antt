use Rattle.std.proofs.Common.{◌≡◌, map, take}
use Rattle.chord_node.proofs.ring.nodes_of.Given as goal

abbrev pub invariant-loop-place : goal.invariant-loop-place
invariant-loop-place l = l.nodes ≡ map (λ p. p.node) (take l.place-index l.fn.places)
