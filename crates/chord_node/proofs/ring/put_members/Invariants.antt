use Rattle.std.proofs.Common.{◌≡◌, map, take}
use Rattle.std.specs.List.{range_with_len}
use Rattle.chord_scenario.specs.World.{node_count}
use Rattle.chord_node.proofs.Joined.{joined}
use Rattle.chord_node.proofs.ring.put_members.Given as goal

abbrev pub invariant-loop-place : goal.invariant-loop-place
invariant-loop-place l = l.states.items ≡ map (joined l.scenario (map (λ p. p.node) (take l.place-index l.ring))) (range_with_len 0 (node_count l.scenario))
