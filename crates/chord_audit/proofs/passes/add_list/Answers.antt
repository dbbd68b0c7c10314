use Rattle.std.proofs.Common.{◌≡◌, ◌∙◌, ◌+◌, ◌<◌, ◌||◌, ap, arith, get_or, length, refl, sym}
use Rattle.chord_audit.specs.declared.arcs.Arcs.{Arcs}
use Rattle.chord_audit.specs.Tables.{covers, is_inside}
use Rattle.chord_audit.proofs.Lists.{or_none}
use Rattle.chord_audit.proofs.Reaches.{between_neighbours, from_leader, way_added}
use Rattle.chord_audit.proofs.passes.add_list.Goals as goal
use Rattle.chord_audit.proofs.passes.add_list.Goals.{then-next-order+then-order-next, else-next-order}

pub loop-node-init : goal.loop-node-init
loop-node-init c =
    let ranks = c.args.order.now.ranks.now in
    record {
      each = refl;
      low = c.requires.ranks c.args.leader 0 c.requires.leader;
      covered = λ k lt. ap (λ b. covers c.args.arcs.now k || b) (from_leader ranks k c.args.leader c.args.list.now);
    }

pub loop-node-preserved : goal.loop-node-preserved
loop-node-preserved c =
    let ranks = c.args.order.now.ranks.now in let nodes = c.args.order.now.nodes.now in
    let list = c.args.list.now in let i = c.loop-node.node-index in let from = c.loop-node.from in
    let node = get_or list i 0 in
    let arcs = c.loop-node.arcs in
    let within : node < length ranks = c.requires.list i 0 (omega arith) in
    let now = c.if-next-order.arcs in
    let next = from + 1 in
    elim c.if-next-order.branch [
      | then-next-order+then-order-next w ↦
          let inside : next < length nodes = omega (arith, w.if-next-order.true) in
          let is_next : get_or nodes next 0 ≡ node = w.if-order-next.true in
          let there : c.if-next-order.from ≡ get_or ranks node 0 = w.from-is ∙ sym (c.requires.nodes.own next inside) ∙ ap (λ n. get_or ranks n 0) is_next in
          record {
            each = ap (λ (a : Arcs). length a.far.items) w.arcs-is ∙ c.loop-node.invariant.each;
            low = omega (arith, there, c.requires.ranks node 0 within);
            covered = λ k lt.
                way_added ranks list i from k c.if-next-order.from (covers arcs k) (covers now k) _ (omega (arith, c.loop-node-test.true)) there
                (ap (λ (a : Arcs). covers a k) w.arcs-is
                ∙ or_none (covers arcs k) (is_inside from k c.if-next-order.from) (ap (is_inside from k) w.from-is ∙ between_neighbours from k))
                (c.loop-node.invariant.covered k lt);
          }
      | else-next-order w ↦
          let there : c.if-next-order.from ≡ get_or ranks node 0 = w.from-is in
          record {
            each = ap (λ (a : Arcs). length a.far.items) w.arcs-is ∙ w.add.ensures.length ∙ c.loop-node.invariant.each;
            low = omega (arith, there, c.requires.ranks node 0 within);
            covered = λ k lt.
                way_added ranks list i from k c.if-next-order.from (covers arcs k) (covers now k) _ (omega (arith, c.loop-node-test.true)) there
                (ap (λ (a : Arcs). covers a k) w.arcs-is ∙ w.add.ensures.covered k (omega (arith, lt, c.loop-node.invariant.each))
                ∙ ap (λ r. covers arcs k || is_inside from k r) (sym w.from-is))
                (c.loop-node.invariant.covered k lt);
          }
    ]
