use Rattle.std.proofs.Common.{◌∙◌, length, slice_get, sym, ap}
use Rattle.std.specs.BinaryHeap.{heap_items}
use Rattle.des_queue.specs.Queue.{Queue}
use Rattle.des_queue.proofs.Places.{length_ordered}
use Rattle.des_queue.proofs.window_queue.WindowQueue.len.Goals as goal

pub returns : goal.returns
returns g c =
    let q = c.self.inside in
    c.len.ensures ∙ q.heap.data.ok.0 ∙ sym (length_ordered (slice_get q.records.items) (heap_items q.heap) c.self.invariant.placed)
    ∙ ap (λ (v : Queue _). length v.events) c.self.view_is
