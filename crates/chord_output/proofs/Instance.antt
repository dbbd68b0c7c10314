-- What a Chord ring gives the kernel.
use Rattle.std.proofs.Common.{◌≡◌, List, [], arith, subst, sym}
use Rattle.std.proofs.lemmas.List.FromFn.{get_or-map-range_with_len, length-map-range_with_len}
use Rattle.std.specs.List.{All}
use Rattle.chord_machine.specs.Chord.{chord}
use Rattle.chord_machine.specs.Sound.{IsStateOf}
use Rattle.chord_node.specs.declared.state.NodeState.{NodeState}
use Rattle.chord_node.specs.Invariant.{AllNodes}
use Rattle.chord_node.specs.Ring.{initial_ring, initial_state}
use Rattle.chord_scenario.specs.declared.scenario.Scenario.{Scenario}
use Rattle.chord_scenario.specs.World.{node_count}
use Rattle.des_machine.specs.Simulable.{AreSound}
use Rattle.des_model.specs.Worlds.{AreStatesAfter}

-- the nodes that sound states name are known
pub all_known : (sc : Scenario) (states : List NodeState) → AreSound (chord sc) (IsStateOf sc) states → All (λ (s : NodeState). AllNodes sc s.succ) states
all_known sc states sound n d l = (sound.each n d (omega (arith, l, sound.long))).invariant.neighbours.succ_known

ring : (sc : Scenario) → AreStatesAfter (chord sc) [] (initial_ring sc)
unfolding initial_ring
ring sc = record {
  nodes_are = length-map-range_with_len (initial_state sc) 0 (node_count sc);
  state_at = λ n d l. get_or-map-range_with_len (initial_state sc) 0 (node_count sc) n n d l (omega arith);
}

-- the first ring is the states after no event
pub first_ring : (sc : Scenario) (states : List NodeState) → states ≡ initial_ring sc → AreStatesAfter (chord sc) [] states
first_ring sc states is = subst (λ ss. AreStatesAfter (chord sc) [] ss) (sym is) (ring sc)
