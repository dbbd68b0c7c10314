use Rattle.std.proofs.Common.{[], ap, slice_get}
use Rattle.des_arena.specs.Arena.{Arena}
use Rattle.des_event.specs.declared.event.Event.{Event}
use Rattle.des_queue.proofs.Places.{held_none}
use Rattle.des_queue.proofs.Tickets.{ticketed}
use Rattle.des_queue.proofs.window_queue.WindowQueue.new.Goals as goal

pub invariant_of-result : goal.invariant_of-result
invariant_of-result g c =
    ticketed _ [] [] (ap (λ (a : Arena (Event _)). a.items) c.new-2.ensures) c.new.ensures.items c.new.ensures.heap_order (held_none (slice_get []))
