-- The entries of a window's heap, and the records at their tickets.
use Rattle.std.specs.Prelude.{map, length, slice_get}
use Rattle.std.specs.List.{AllByRecursion, IsDistinct}
use Rattle.std.specs.BinaryHeap.{IsHeap, heap_items}
use Rattle.des_event.specs.Keys.{is_same_key}
use Rattle.des_queue.specs.Places.{waiting_key, waiting_cmp, events_at, in_key_order, IsPlaced}
use Rattle.des_queue.specs.Queue.{Queue, queue}
use Rattle.des_queue.specs.declared.window_queue.WindowQueue.TheInside.{Inside}

module _ {B : Type 0} where
  -- what contracts see of the heap: the events that wait, in key order, and the number of all records since the queue
  -- was made or emptied
  abbrev pub queue_of : Inside B → Queue B
  queue_of q = queue (in_key_order (events_at (slice_get q.records.items) (heap_items q.heap))) (length q.records.items)

  -- no two of the heap's entries have one key, and their tickets are of records of these keys
  pub record IsTicketedHeap (q : Inside B) : Type 0 where
    pub ordered : IsHeap waiting_cmp (heap_items q.heap)
    pub placed : AllByRecursion (IsPlaced (slice_get q.records.items)) (heap_items q.heap)
    pub distinct : IsDistinct is_same_key (map waiting_key (heap_items q.heap))
