use Rattle.std.proofs.Common.{◌++◌, subst}
use Rattle.des_event.specs.KeyOrder.{InKeyOrder}
use Rattle.des_queue.specs.EventKey.{event_key}
use Rattle.des_queue.proofs.Orders.{ordered_all}
use Rattle.des_queue.proofs.pending.Pending.recall_order.Goals as goal

pub returns : goal.returns
returns g c = let p = c.self.inside in subst (InKeyOrder event_key) c.self.view_is (ordered_all (p.calendar ++ p.rest) c.self.invariant)
