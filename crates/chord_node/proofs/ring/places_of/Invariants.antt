use Rattle.std.proofs.Common.{◌≡◌, take}
use Rattle.chord_node.specs.Places.{placed}
use Rattle.chord_node.proofs.ring.places_of.Given as goal

abbrev pub invariant-loop-node : goal.invariant-loop-node
invariant-loop-node l = l.places.items ≡ placed l.scenario (take l.node-index l.nodes)
