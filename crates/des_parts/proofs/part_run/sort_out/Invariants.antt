use Rattle.std.proofs.Common.{◌≡◌, ◌+◌, ◌<◌, ◌≤◌, ◌^◌, ◌++◌, length}
use Rattle.std.specs.Vec.Iter.{into_iter_items}
use Rattle.des_event.specs.KeyOrder.{InKeyOrder}
use Rattle.des_queue.specs.EventKey.{event_key}
use Rattle.des_parts.proofs.Sorting.{HasSorted}
use Rattle.des_parts.proofs.part_run.sort_out.Given as goal

abbrev pub invariant-loop-event : goal.invariant-loop-event
invariant-loop-event g l = record {
  can_next : (goal.iterator-loop-event g).can_next l.event-iterator;
  is_finite : (goal.iterator-loop-event g).is_finite l.event-iterator;
  whole : l.yielded ++ into_iter_items l.event-iterator ≡ l.fn.made.items;
  sorted : HasSorted l.horizon l.initial.queue.events l.queue.events l.yielded (into_iter_items l.event-iterator) l.initial.mail.items l.mail.items;
  ordered : InKeyOrder event_key l.queue.events;
  few : l.queue.pushes + length (into_iter_items l.event-iterator) < 2 ^ 40;
  pushes : l.queue.pushes + length (into_iter_items l.event-iterator) ≤ l.initial.queue.pushes + length l.fn.made.items;
}
