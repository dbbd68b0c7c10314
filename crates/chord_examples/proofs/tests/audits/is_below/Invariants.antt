use Rattle.std.proofs.Common.{ℕ, ◌<◌, get_or}
use Rattle.chord_examples.proofs.tests.audits.is_below.Given as goal

abbrev pub invariant-loop-node : goal.invariant-loop-node
invariant-loop-node l = (k d : ℕ) → k < l.node-index → get_or l.list k d < l.nodes
