use Rattle.std.proofs.Common.{◌∙◌, ◌<◌, List, ℕ, ap, arith, find, length, subst, sym}
use Rattle.std.proofs.lemmas.Option.{get_or_from_slice_get}
use Rattle.std.specs.List.{All}
use Rattle.chord_node.specs.declared.state.NodeState.{NodeState}
use Rattle.chord_audit.specs.Tables.{is_marked}
use Rattle.chord_audit.proofs.Lists.{maps_more}
use Rattle.chord_audit.proofs.successors.add_best.Goals as goal

pub first_marked-requires : goal.first_marked-requires
first_marked-requires g c =
    let states = g.V.States.list c.args.states.now in
    let item = get_or_from_slice_get states c.loop-node.node c.of.result.now c.of.result.now c.of.ensures in
    subst (λ (l : List ℕ). All (λ n. n < length c.args.members.now) l) (sym (c.as_slice-list.ensures ∙ ap (λ (s : NodeState). s.succ) (sym item)))
    (c.requires.succ c.loop-node.node c.of.result.now (omega (arith, c.loop-node-test.true, c.requires.end)))

pub loop-node-preserved : goal.loop-node-preserved
loop-node-preserved g c =
    let states = g.V.States.list c.args.states.now in
    let state = c.of.result.now in
    let marked = is_marked c.args.members.now in
    maps_more (λ (s : NodeState). find marked s.succ) states c.loop-node.node state state c.first_marked.result c.loop-node.best.items
    c.push.new.self.items (omega (arith, c.loop-node-test.true, c.requires.end))
    (sym (get_or_from_slice_get states c.loop-node.node state state c.of.ensures))
    (c.first_marked.ensures ∙ ap (find marked) c.as_slice-list.ensures) c.loop-node.invariant c.in_ok-push.ensures.items
