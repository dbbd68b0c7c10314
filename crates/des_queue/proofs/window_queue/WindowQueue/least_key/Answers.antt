use Rattle.std.proofs.Common.{◌∙◌, refl, ap, arith, option_map, slice_get}
use Rattle.std.specs.BinaryHeap.{heap_items}
use Rattle.des_event.specs.declared.event.Event.{Event}
use Rattle.des_queue.specs.Queue.{Queue}
use Rattle.des_queue.proofs.Places.{first_of}
use Rattle.des_queue.proofs.Tickets.{held_by}
use Rattle.des_queue.proofs.window_queue.WindowQueue.least_key.Goals as goal

pub returns : goal.returns
returns g c =
    let q = c.self.inside in let at = c.in_ok-waiting.ensures in
    first_of (λ k. k) (slice_get q.records.items) (heap_items q.heap) c.in_ok-waiting.waiting.now (held_by q c.self.invariant)
    (at.greatest c.self.invariant.ordered) at.lookup (omega (arith, at.variant.0 refl, q.heap.data.ok.0))
    ∙ ap (λ (v : Queue _). option_map (λ (e : Event _). e.key) (slice_get v.events 0)) c.self.view_is
