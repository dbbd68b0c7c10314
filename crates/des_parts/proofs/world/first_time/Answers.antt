use Rattle.std.proofs.Common.{arith, sym, subst, ◌≡◌, ◌+◌, length, get_or}
use Rattle.des_parts.specs.Delivery.{LeastIs}
use Rattle.des_model.proofs.Course.{same_read}
use Rattle.des_parts.proofs.Deliveries.{least_next}
use Rattle.des_parts.proofs.world.first_time.Goals as goal

pub loop-part-preserved : goal.loop-part-preserved
loop-part-preserved g c =
    subst (λ o. LeastIs c.args.parts.now (c.loop-part.part + 1) o) (sym c.sooner-least.ensures)
    (least_next c.args.parts.now c.loop-part.part c.loop-part-test.true (get_or c.args.parts.now c.loop-part.part c.index-parts-part.result)
    (same_read c.args.parts.now c.loop-part.part c.index-parts-part.result (get_or c.args.parts.now c.loop-part.part c.index-parts-part.result)
    c.loop-part-test.true) c.recall_order.ensures
    c.loop-part.least c.first_time.result c.loop-part.invariant c.first_time.ensures)

pub returns : goal.returns
returns g c =
    let last : c.loop-part.part ≡ length c.args.parts.now = omega (arith, c.loop-part-test.false, c.loop-part.auto.part-end) in
    subst (λ n. LeastIs c.args.parts.now n c.loop-part.least) last c.loop-part.invariant
