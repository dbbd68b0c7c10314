use Rattle.std.proofs.Common.{◌∙◌, List, refl, ap, arith, option_map, slice_get}
use Rattle.std.specs.BinaryHeap.{heap_items}
use Rattle.des_queue.specs.Shelf.{get}
use Rattle.des_event.specs.declared.event.Event.{Event}
use Rattle.des_queue.proofs.Places.{held_by, first_of}
use Rattle.des_queue.proofs.event_heap.EventHeap.first_key.Goals as goal

pub returns : goal.returns
returns g c =
    let p = c.self.inside in let at = c.in_ok-waiting.ensures in
    first_of (λ k. k) (get p.events) (heap_items p.heap) c.in_ok-waiting.waiting.now (held_by p c.self.invariant)
    (at.greatest c.self.invariant.ordered) at.lookup (omega (arith, at.variant.0 refl, p.heap.data.ok.0))
    ∙ ap (λ (es : List (Event _)). option_map (λ (e : Event _). e.key) (slice_get es 0)) c.self.view_is
