use Rattle.std.proofs.Common.{◌≡◌, ◌∙◌, ℕ, ◌<◌, List, get_or, refl, ap, subst, below_more}
use Rattle.std.specs.List.{All}
use Rattle.std.proofs.lemmas.List.{get_or_default}
use Rattle.chord_node.specs.declared.state.NodeState.{NodeState}
use Rattle.chord_examples.proofs.tests.audits.names_nodes.Goals as goal

pub loop-state-preserved : goal.loop-state-preserved
loop-state-preserved c = λ k d lt.
    let states = c.args.states.now in let i = c.loop-state.state-index in let nodes = c.args.nodes in let state = c.state-item.result in
    let list : c.as_slice.result.now ≡ (get_or states i d).succ =
    c.as_slice.ensures ∙ ap (λ (s : NodeState). s.succ) (c.state-item.is ∙ get_or_default states i state d c.loop-state-test.true) in
    below_more (λ k. All (λ n. n < nodes) (get_or states k d).succ) i (λ j under. c.loop-state.invariant j d under)
    (subst (λ (l : List ℕ). All (λ n. n < nodes) l) list (c.if-not-is_below.ensures refl)) k lt
