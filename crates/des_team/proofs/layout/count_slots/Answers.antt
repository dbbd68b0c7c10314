use Rattle.std.proofs.Common.{◌≡◌, ◌<◌, ◌+◌, ◌∙◌, ◌∷◌, [], ap, arith, length, length-append, subst, sym, get_or, set}
use Rattle.std.proofs.lemmas.List.{length-set}
use Rattle.des_model.specs.Windows.{part_of}
use Rattle.des_team.specs.Layouts.{nodes_before}
use Rattle.des_team.proofs.Slots.{count_most, counted_next, slots_next}
use Rattle.des_team.proofs.TeamMail.{or_same}
use Rattle.des_team.proofs.layout.count_slots.Goals as goal

pub overflow_add-index_mut : goal.overflow_add-index_mut
overflow_add-index_mut c =
    let inside : c.part_of-part.result < length c.loop-node.sizes.items = omega arith in
    let here = c.loop-node.invariant.sizes_are c.part_of-part.result inside in
    let read = or_same c.loop-node.sizes.items c.part_of-part.result c.index_mut.result.now 0 inside in
    omega (
      arith,
      c.index_mut.ensures.value,
      read,
      here,
      count_most c.args.division.now c.part_of-part.result c.loop-node.node,
      c.loop-node-test.true,
      c.ranges.nodes.fits,
    )

pub loop-node-preserved : goal.loop-node-preserved
loop-node-preserved c =
    let d = c.args.division.now in
    let node = c.loop-node.node in
    let sizes = c.loop-node.sizes.items in
    let is : c.part_of-part.result ≡ part_of d node = c.part_of-part.ensures in
    let inside : c.part_of-part.result < length sizes = omega arith in
    let here : part_of d node < length sizes = omega (arith, inside, is) in
    let slot = c.index.ensures ∙ or_same sizes c.part_of-part.result c.index.result.now 0 inside in
    let count = c.index_mut.ensures.value ∙ or_same sizes c.part_of-part.result c.index_mut.result.now 0 inside in
    record {
      long = omega (
        arith,
        ap length c.in_ok-push.ensures.items,
        length-append c.loop-node.slots.items (c.index.result.now ∷ []),
        c.loop-node.invariant.long,
      );
      counted = slots_next d node c.loop-node.slots.items c.push.new.self.items c.index.result.now c.loop-node.invariant.long c.in_ok-push.ensures.items
          (slot ∙ ap (λ p. get_or sizes p 0) is ∙ c.loop-node.invariant.sizes_are (part_of d node) here)
          c.loop-node.invariant.counted;
      sizes_long = length-set sizes c.part_of-part.result (c.index_mut.result.now + 1) ∙ c.loop-node.invariant.sizes_long;
      sizes_are = λ p l. subst (λ q. get_or (set sizes q (c.index_mut.result.now + 1)) p 0 ≡ nodes_before d p (node + 1)) (sym is)
          (counted_next d node sizes here c.index_mut.result.now (count ∙ ap (λ q. get_or sizes q 0) is) c.loop-node.invariant.sizes_are p
          (omega (arith, l, length-set sizes c.part_of-part.result (c.index_mut.result.now + 1))));
    }
