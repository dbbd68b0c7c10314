-- The pending events: those by day, and the rest.
use Rattle.std.specs.Prelude.{List, ◌++◌}
use Rattle.des_event.specs.declared.event.Event.{Event}
use Rattle.des_queue.specs.Calendar.{AreDistinct}
use Rattle.des_queue.specs.Places.{in_key_order}
use Rattle.des_queue.specs.declared.pending.Pending.TheInside.{Inside}

module _ {B : Type 0} where
  -- what contracts see of the pending events: those of the calendar and those that it did not take, in key order
  abbrev pub all_pending : Inside B → List (Event B)
  all_pending p = in_key_order (p.calendar ++ p.rest)

  -- no two pending events have the same key, whether they are in the calendar or not
  abbrev pub ArePending : Inside B → Type 0
  ArePending p = AreDistinct (p.calendar ++ p.rest)
