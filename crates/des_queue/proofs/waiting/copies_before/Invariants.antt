use Rattle.std.proofs.Common.{◌≡◌, ◌++◌, vec_len}
use Rattle.des_queue.specs.Shelf.{get}
use Rattle.des_event.specs.KeyOrder.{before}
use Rattle.des_queue.specs.EventKey.{event_key}
use Rattle.des_queue.specs.Places.{events_at, in_key_order}
use Rattle.des_queue.proofs.Due.{Due}
use Rattle.des_queue.proofs.waiting.copies_before.Given as goal

abbrev pub invariant-loop-waiting : goal.invariant-loop-waiting
invariant-loop-waiting g l = record {
  due : Due (get l.events) l.due.items;
  whole : l.copies.items ++ in_key_order (events_at (get l.events) l.due.items)
      ≡ before event_key l.fn.horizon (in_key_order (events_at (get l.events) l.fn.entries));
}

abbrev pub decreases-loop-waiting : goal.decreases-loop-waiting
decreases-loop-waiting g l = vec_len l.due
