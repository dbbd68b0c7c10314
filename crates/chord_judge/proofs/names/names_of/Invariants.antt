use Rattle.std.proofs.Common.{◌≡◌, ◌≤◌, ℕ, List, drop}
use Rattle.chord_scenario.specs.Index.{number_in}
use Rattle.chord_scenario.specs.Settings.{index_from}
use Rattle.chord_scenario.specs.World.{node_count}
use Rattle.chord_judge.proofs.names.names_of.Given as goal

-- the map has the nodes from the place on
abbrev pub invariant-loop-node : goal.invariant-loop-node
invariant-loop-node l = record {
  within : l.node ≤ node_count l.scenario;
  has : (name : List ℕ) → number_in l.names name ≡ index_from l.node name (drop l.node l.scenario.nodes);
}

abbrev pub decreases-loop-node : goal.decreases-loop-node
decreases-loop-node l = l.node
