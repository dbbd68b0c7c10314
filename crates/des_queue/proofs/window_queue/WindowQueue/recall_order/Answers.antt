use Rattle.std.proofs.Common.{slice_get, subst}
use Rattle.std.specs.BinaryHeap.{heap_items}
use Rattle.des_queue.specs.EventKey.{event_key}
use Rattle.des_queue.specs.Queue.{Queue}
use Rattle.des_event.specs.KeyOrder.{InKeyOrder}
use Rattle.des_queue.proofs.Places.{ordered}
use Rattle.des_queue.proofs.Tickets.{held_by}
use Rattle.des_queue.proofs.window_queue.WindowQueue.recall_order.Goals as goal

pub returns : goal.returns
returns g c =
    let q = c.self.inside in
    subst (λ (v : Queue _). InKeyOrder event_key v.events) c.self.view_is (ordered (slice_get q.records.items) (heap_items q.heap) (held_by q c.self.invariant))
