use Rattle.std.proofs.Common.{ℕ, ◌<◌, get_or, subst, sym, below_more}
use Rattle.std.proofs.lemmas.List.{get_or_default}
use Rattle.chord_examples.proofs.tests.audits.is_below.Goals as goal

pub loop-node-preserved : goal.loop-node-preserved
loop-node-preserved c = λ k d lt.
    let list = c.args.list.now in let i = c.loop-node.node-index in let nodes = c.args.nodes in
    below_more (λ k. get_or list k d < nodes) i (λ j under. c.loop-node.invariant j d under)
    (subst (λ (x : ℕ). x < nodes) (sym (get_or_default list i d 0 c.loop-node-test.true)) c.if-node-nodes.false) k lt
