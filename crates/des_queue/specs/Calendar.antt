-- Events by day, of which those of the days so far are in order.
use Rattle.std.specs.Prelude.{◌≡◌, List, [], ◌++◌, map, vec_capacity}
use Rattle.std.specs.List.{IsDistinct}
use Rattle.std.specs.List.Sorted.{IsSorted}
use Rattle.std.specs.Global.{Vec}
use Rattle.des_queue.specs.Shelf.{get}
use Rattle.des_event.specs.declared.event.Event.{Event}
use Rattle.des_event.specs.Keys.{is_same_key}
use Rattle.des_queue.specs.Days.{AreDays, HaveNone, IsOpened, entries_in}
use Rattle.des_queue.specs.EventKey.{event_key}
use Rattle.des_queue.specs.Places.{Entry, Held, events_at, in_key_order, waiting_cmp}
use Rattle.des_queue.specs.declared.calendar.Calendar.TheInside.{Inside}
use Rattle.des_queue.specs.declared.days.Days.{Days}

module _ {B : Type 0} where
  -- the events have keys of their own
  abbrev pub AreDistinct : List (Event B) → Type 0
  AreDistinct es = IsDistinct is_same_key (map event_key es)

  -- the events of the due entries and of the lists, in key order
  abbrev pub events_of : List Entry → Days B → List (Event B)
  events_of due d = in_key_order (events_at (get d.events) (due ++ entries_in d))

  -- what contracts see of a calendar: all its events, those of the opened days and those of later ones, in key order
  abbrev pub calendar_of : Inside B → List (Event B)
  calendar_of c = events_of c.due.items c.days

  -- the due entries are those of opened days, the first one last, and have room for those of one list
  pub record AreOrderly (due : Vec Entry) (d : Days B) : Type 0 where
    pub held : Held (get d.events) (due.items ++ entries_in d)
    pub days : AreDays d (vec_capacity due)
    pub opened : IsOpened d due.items
    pub sorted : IsSorted waiting_cmp due.items

  -- the entries and the days are orderly, and an entry is due if there is any event
  pub record IsCalendar (c : Inside B) : Type 0 where
    pub orderly : AreOrderly c.due c.days
    pub whole : c.due.items ≡ [] → HaveNone c.days
