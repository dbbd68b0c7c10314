use Rattle.std.proofs.Common.{◌+◌, ◌∙◌, ap, arith, refl, subst}
use Rattle.des_parts.specs.Exchanges.{events_in}
use Rattle.des_parts.specs.Ordering.{AreInOrder}
use Rattle.des_parts.proofs.NextWorld.{exchange_over}
use Rattle.des_parts.proofs.Orders.{events_in_order, parts_done}
use Rattle.des_parts.proofs.exchanging.exchange.Goals as goal

pub returns-in_default-clause-over : goal.returns-in_default-clause-over
returns-in_default-clause-over g c = λ _.
    let k = c.args.machine.now in
    let m = g.M.Machine.model k in
    let order = subst (λ parts. AreInOrder c.args.dones.items parts c.in_ok-list.list.items) c.parts.ensures c.in_ok-list.ensures in
    let done = parts_done m (g.M.Machine.Known k) c.args.world.now c.requires.done.0 c.args.dones.items c.in_ok-list.list.items c.requires.done.1 order in
    exchange_over m (g.met.M.Machine.simulable k c.recall.ensures) c.args.world.now c.requires.world c.requires.done.0 c.in_ok-list.list.items done
    (omega (arith, c.in_default.ensures.none refl, ap events_in c.as_slice.ensures.value, c.max_events.ensures, c.requires.world.within))

pub exchange_in_order-requires-clause-done : goal.exchange_in_order-requires-clause-done
exchange_in_order-requires-clause-done g c =
    let k = c.args.machine.now in
    let order = subst (λ parts. AreInOrder c.args.dones.items parts c.in_ok-list.list.items) c.parts.ensures c.in_ok-list.ensures in (
      c.requires.done.0,
      parts_done (g.M.Machine.model k)
          (g.M.Machine.Known k) c.args.world.now c.requires.done.0 c.args.dones.items c.in_ok-list.list.items c.requires.done.1 order,
    )

pub returns-clause-count : goal.returns-clause-count
returns-clause-count g c =
    let order = subst (λ parts. AreInOrder c.args.dones.items parts c.in_ok-list.list.items) c.parts.ensures c.in_ok-list.ensures in
    let same = events_in_order c.args.world.now.division.parts c.args.dones.items c.in_ok-list.list.items c.requires.done.1.once order in
    c.in_ok-exchange_in_order.ensures.count ∙ ap (λ k. c.args.world.now.count + k) same

pub exchange_in_order-requires-clause-events : goal.exchange_in_order-requires-clause-events
exchange_in_order-requires-clause-events g c = c.in-Some.ensures.some.0 ∙ ap events_in c.as_slice.ensures.value

pub exchange_in_order-requires-clause-within : goal.exchange_in_order-requires-clause-within
exchange_in_order-requires-clause-within g c = omega (arith, c.in-Some.ensures.some.1, c.max_events.ensures, c.requires.world.within)

pub returns-clause-division : goal.returns-clause-division
returns-clause-division g c = c.in_ok-exchange_in_order.ensures.division
