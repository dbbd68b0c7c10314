use Rattle.std.proofs.Common.{◌≡◌, ◌∙◌, ◌||◌, ◌&&◌, ◌<◌, Bool, ℕ, [], sym, ap, arith, length}
use Rattle.std.proofs.lemmas.List.{get_or-map}
use Rattle.std.proofs.lemmas.Option.{get_or_from_slice_get}
use Rattle.chord_node.specs.declared.state.NodeState.{NodeState}
use Rattle.chord_audit.specs.declared.arcs.Arcs.{Arcs}
use Rattle.chord_audit.specs.Tables.{reaches, is_inside_list, is_passing, list_of}
use Rattle.chord_audit.proofs.Lists.{one_more, or_none}
use Rattle.chord_audit.proofs.passes.add_passed.Goals as goal
use Rattle.chord_audit.proofs.passes.add_passed.Goals.{then-marks-node, else-marks-node}

pub loop-node-preserved : goal.loop-node-preserved
loop-node-preserved g c =
    let ranks = c.args.order.now.ranks.now in let marks = c.args.marks.now in let states = (g.V.States.list c.args.states.now) in let n = c.loop-node.node in
    let old = c.loop-node.arcs in let each = c.loop-node.invariant.each in
    let step = λ (k : ℕ) (lt : k < length ranks) (now : Bool). one_more (is_passing ranks marks states k) n (reaches old.first old.far.items k) now
    (c.loop-node.invariant.covered k lt) in
    elim c.if-marks-node.branch [
      | then-marks-node w ↦ record {
        each = ap (λ (a : Arcs). length a.far.items) w.arcs-is ∙ w.add_list.ensures.length ∙ each;
        covered = λ k lt.
            let state = w.of.result.now in
            let list : list_of states n ≡ state.succ = get_or-map (λ (s : NodeState). s.succ) states n state [] (omega (arith, c.requires.states))
            ∙ ap (λ (s : NodeState). s.succ) (get_or_from_slice_get states n state state w.of.ensures) in
            let marked =
            ap (λ b. b && is_inside_list ranks k n (list_of states n)) w.if-marks-node.true
            ∙ ap (is_inside_list ranks k n) (list ∙ sym w.as_slice-list.ensures) in
            step k lt (reaches c.if-marks-node.arcs.first c.if-marks-node.arcs.far.items k)
            (ap (λ (a : Arcs). reaches a.first a.far.items k) w.arcs-is ∙ w.add_list.ensures.covered k (omega (arith, each))
            ∙ ap (λ b. reaches old.first old.far.items k || b) (sym marked));
      }
      | else-marks-node w ↦ record {
        each = ap (λ (a : Arcs). length a.far.items) w.arcs-is ∙ each;
        covered = λ k lt.
            step k lt (reaches c.if-marks-node.arcs.first c.if-marks-node.arcs.far.items k)
            (ap (λ (a : Arcs). reaches a.first a.far.items k) w.arcs-is
            ∙ or_none (reaches old.first old.far.items k) (is_passing ranks marks states k n)
            (ap (λ b. b && is_inside_list ranks k n (list_of states n)) w.if-marks-node.false));
      }
    ]

pub loop-node-init : goal.loop-node-init
loop-node-init g c = record {
  each = c.requires.each;
  covered = c.requires.before;
}
