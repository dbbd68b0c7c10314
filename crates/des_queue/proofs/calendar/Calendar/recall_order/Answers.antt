use Rattle.std.proofs.Common.{◌++◌, subst}
use Rattle.des_queue.specs.Shelf.{get}
use Rattle.des_event.specs.KeyOrder.{InKeyOrder}
use Rattle.des_queue.specs.Days.{entries_in}
use Rattle.des_queue.specs.EventKey.{event_key}
use Rattle.des_queue.proofs.Places.{ordered}
use Rattle.des_queue.proofs.calendar.Calendar.recall_order.Goals as goal

pub returns : goal.returns
returns g c =
    let q = c.self.inside in
    subst (InKeyOrder event_key) c.self.view_is (ordered (get q.days.events) (q.due.items ++ entries_in q.days) c.self.invariant.orderly.held)
