use Rattle.std.proofs.Common.{ℕ, ◌<◌, get_or}
use Rattle.std.specs.List.{All}
use Rattle.chord_node.specs.declared.state.NodeState.{NodeState}
use Rattle.chord_examples.proofs.tests.audits.names_nodes.Given as goal

abbrev pub invariant-loop-state : goal.invariant-loop-state
invariant-loop-state l = (k : ℕ) (d : NodeState) → k < l.state-index → All (λ n. n < l.nodes) (get_or l.states k d).succ
