use Rattle.std.proofs.Common.{subst}
use Rattle.std.specs.BinaryHeap.{heap_items}
use Rattle.des_queue.specs.Shelf.{get}
use Rattle.des_event.specs.KeyOrder.{InKeyOrder}
use Rattle.des_queue.specs.EventKey.{event_key}
use Rattle.des_queue.proofs.Places.{held_by, ordered}
use Rattle.des_queue.proofs.event_heap.EventHeap.recall_order.Goals as goal

pub returns : goal.returns
returns g c =
    let p = c.self.inside in
    subst (InKeyOrder event_key) c.self.view_is (ordered (get p.events) (heap_items p.heap) (held_by p c.self.invariant))
