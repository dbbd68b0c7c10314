use Rattle.std.proofs.Common.{◌≡◌, ◌∙◌, List, ap, sym, arith, length, map, refl, subst, take}
use Rattle.std.specs.List.Sorted.{IsNonDecreasingBy}
use Rattle.std.proofs.Math.Seq.{take-length}
use Rattle.chord_scenario.specs.declared.order.Placed.{Placed}
use Rattle.chord_scenario.proofs.Ranks.{ArePlaced, AreNoted, at, noted-more, noted-order, noted-ranks, numbers-more, placed_lent}
use Rattle.chord_scenario.proofs.order.order_of.Goals as goal

pub loop-rank-init : goal.loop-rank-init
loop-rank-init c = record {
  noted = record { each = omega (arith, c.in_ok-ranks.ensures.len, c.len.ensures, c.deref-placed-items.ensures.len); own = λ i l. absurd (omega (arith, l)) };
  numbers = c.new-numbers.ensures.items;
}

pub index_mut-requires : goal.index_mut-requires
index_mut-requires c =
    let nodes = c.args.nodes.now in
    let order : List Placed = c.deref-placed-items.result.now in
    let all_placed : ArePlaced nodes order = placed_lent nodes _ _ order c.in_ok-order.ensures c.sort_by_ident.ensures.moved c.deref-placed-items.ensures.value in
    omega (arith, all_placed.known c.loop-rank.rank c.loop-rank-test.true, all_placed.each, c.loop-rank.invariant.noted.each)

pub loop-rank-preserved : goal.loop-rank-preserved
loop-rank-preserved c =
    let nodes = c.args.nodes.now in
    let order : List Placed = c.deref-placed-items.result.now in
    let all_placed : ArePlaced nodes order = placed_lent nodes _ _ order c.in_ok-order.ensures c.sort_by_ident.ensures.moved c.deref-placed-items.ensures.value in
    record {
      noted = noted-more nodes order c.loop-rank.ranks.items c.loop-rank.rank all_placed c.loop-rank-test.true c.loop-rank.invariant.noted;
      numbers = numbers-more order c.loop-rank.rank (at order c.loop-rank.rank).node c.loop-rank.numbers.items c.push.new.self.items c.loop-rank-test.true refl
          c.loop-rank.invariant.numbers c.in_ok-push.ensures.items;
    }

pub overflow_cast-rank : goal.overflow_cast-rank
overflow_cast-rank c =
    let nodes = c.args.nodes.now in
    let order : List Placed = c.deref-placed-items.result.now in
    let all_placed : ArePlaced nodes order = placed_lent nodes _ _ order c.in_ok-order.ensures c.sort_by_ident.ensures.moved c.deref-placed-items.ensures.value in
    omega (arith, c.loop-rank-test.true, all_placed.each, c.requires.few)

pub returns-clause-ranks : goal.returns-clause-ranks
returns-clause-ranks c =
    let nodes = c.args.nodes.now in
    let order : List Placed = c.deref-placed-items.result.now in
    let all_placed : ArePlaced nodes order = placed_lent nodes _ _ order c.in_ok-order.ensures c.sort_by_ident.ensures.moved c.deref-placed-items.ensures.value in
    let up : IsNonDecreasingBy (λ p. p.ident) order = subst (IsNonDecreasingBy (λ p. p.ident)) (sym c.deref-placed-items.ensures.value)
    c.sort_by_ident.ensures.sorted in
    let whole : c.loop-rank.rank ≡ length order = omega (arith, c.loop-rank-test.false, c.loop-rank.auto.rank-end) in
    let noted : AreNoted order c.loop-rank.ranks.items (length order) = subst (AreNoted order c.loop-rank.ranks.items) whole c.loop-rank.invariant.noted in
    noted-ranks nodes order c.loop-rank.ranks.items c.requires.apart all_placed up noted

pub returns-clause-nodes : goal.returns-clause-nodes
returns-clause-nodes c =
    let nodes = c.args.nodes.now in
    let order : List Placed = c.deref-placed-items.result.now in
    let all_placed : ArePlaced nodes order = placed_lent nodes _ _ order c.in_ok-order.ensures c.sort_by_ident.ensures.moved c.deref-placed-items.ensures.value in
    let whole : c.loop-rank.rank ≡ length order = omega (arith, c.loop-rank-test.false, c.loop-rank.auto.rank-end) in
    noted-order nodes order c.loop-rank.ranks.items c.loop-rank.numbers.items all_placed (subst (AreNoted order c.loop-rank.ranks.items) whole c.loop-rank.invariant.noted)
    (c.loop-rank.invariant.numbers ∙ ap (λ k. map (λ (p : Placed). p.node) (take k order)) whole ∙ ap (map (λ (p : Placed). p.node)) (take-length order))
