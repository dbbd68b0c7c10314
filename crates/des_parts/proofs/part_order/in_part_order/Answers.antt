use Rattle.std.proofs.Common.{◌≡◌, ◌∙◌, length, ap, sym, subst}
use Rattle.std.proofs.lemmas.Result.{IfOk-weaker}
use Rattle.des_parts.specs.Ordering.{AreInOrder, AreInOrderFrom}
use Rattle.des_parts.specs.Slots.{in_slots}
use Rattle.des_parts.proofs.Orders.{filled_in_order}
use Rattle.des_parts.proofs.part_order.in_part_order.Goals as goal

pub returns : goal.returns
returns g c =
    let slots = c.in_ok-slots.slots.items in
    let order = filled_in_order c.args.dones.items c.args.parts slots c.in_ok-slots.ensures.long c.in_ok-slots.ensures.filled in
    IfOk-weaker c.take_out.result (λ list. list.items ≡ in_slots slots) (λ list. AreInOrder c.args.dones.items c.args.parts list.items) (λ list taken. record {
      long = ap length taken ∙ (order.1 ∙ c.in_ok-slots.ensures.long);
      each = subst (AreInOrderFrom c.args.dones.items 0) (sym taken) order.0;
    }) c.take_out.ensures
