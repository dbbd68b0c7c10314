use Rattle.std.proofs.Common.{◌∙◌, sym, subst}
use Rattle.des_queue.specs.Shelf.{get}
use Rattle.des_queue.specs.Places.{Held}
use Rattle.des_queue.proofs.Places.{held_none, placed_by}
use Rattle.des_queue.proofs.event_heap.EventHeap.new.Goals as goal

pub invariant_of-result : goal.invariant_of-result
invariant_of-result g c =
    placed_by (record { heap = c.new.result; events = c.new-2.result; alloc = c.args.alloc }) c.new.ensures.heap_order
    (subst (Held (get c.new-2.result)) (sym c.new.ensures.items) (held_none (get c.new-2.result)))
    (c.new-2.ensures.count ∙ sym c.new.ensures.len)
