use Rattle.std.proofs.Common.{[], ap, slice_get}
use Rattle.des_arena.specs.Arena.{Arena}
use Rattle.des_event.specs.declared.event.Event.{Event}
use Rattle.des_queue.proofs.Places.{held_none}
use Rattle.des_queue.proofs.Tickets.{ticketed}
use Rattle.des_queue.proofs.window_queue.WindowQueue.give_up.Goals as goal

pub invariant_of-self : goal.invariant_of-self
invariant_of-self g c =
    ticketed _ [] [] (ap (λ (a : Arena (Event _)). a.items) c.clear-2.ensures) c.clear.ensures.items c.clear.ensures.heap_order (held_none (slice_get []))
