-- Entries, and the events at their places.
use Rattle.std.specs.Prelude.{◌≡◌, ℕ, Bool, nat_lt, List, [], ◌∷◌, map, Option, Some, None, IsSomeAnd}
use Rattle.std.specs.List.{AllByRecursion, IsDistinct, filter_map}
use Rattle.std.specs.BinaryHeap.{IsHeap, heap_items, heap_len}
use Rattle.std.specs.Ordering.{nat_cmp, ordering_then}
use Rattle.std.specs.declared.cmp.Ordering.{Ordering}
use Rattle.des_queue.specs.Shelf.{get, shelf_len}
use Rattle.des_event.specs.declared.event.Event.{Event}
use Rattle.des_event.specs.declared.key.Key.{Key}
use Rattle.des_event.specs.Keys.{is_same_key, key_cmp}
use Rattle.des_event.specs.KeyOrder.{put_in_order}
use Rattle.des_queue.specs.EventKey.{event_key}
use Rattle.des_queue.specs.declared.waiting.Waiting.{Waiting}
use Rattle.des_queue.specs.declared.event_heap.EventHeap.TheInside.{Inside}

-- what is at each place
abbrev pub Events : Type 0 → Type 0
Events B = ℕ → Option (Event B)

-- the key of an event that waits, and the place where the event itself is stored
abbrev pub Entry : Type 0
Entry = Waiting ℕ

-- the key of an entry
abbrev pub waiting_key : Entry → Key
waiting_key w = w.key.0

-- the order of entries: by key, reversed, and then by place
abbrev pub waiting_cmp : Entry → Entry → Ordering
waiting_cmp a b = ordering_then (key_cmp (waiting_key b) (waiting_key a)) (nat_cmp a.place b.place)

-- whether an entry's time is before the horizon
abbrev pub is_due : (horizon : ℕ) → Entry → Bool
is_due horizon w = nat_lt (waiting_key w).time horizon

module _ {B : Type 0} where
  -- the events at the places of the entries
  abbrev pub events_at : Events B → List Entry → List (Event B)
  events_at s ws = filter_map (λ w. s w.place) ws

  -- the events, in key order
  abbrev pub in_key_order : List (Event B) → List (Event B)
  in_key_order [] = []
  in_key_order (e ∷ es) = put_in_order event_key e (in_key_order es)

  -- what contracts see of a heap: the events of its entries, in key order
  abbrev pub heap_events : Inside B → List (Event B)
  heap_events p = in_key_order (events_at (get p.events) (heap_items p.heap))

  -- the entry's place has an event of its key
  abbrev pub IsPlaced : Events B → Entry → Type 0
  IsPlaced s w = IsSomeAnd (s w.place) (λ e. e.key ≡ waiting_key w)

  -- no two of these entries have one key, and their places have events of these keys
  pub record Held (s : Events B) (ws : List Entry) : Type 0 where
    pub placed : AllByRecursion (IsPlaced s) ws
    pub distinct : IsDistinct is_same_key (map waiting_key ws)

  -- the key of what is at a place
  abbrev pub key_there : Option (Event B) → Key
  key_there None = record { time = 0; origin = 0; number = 0 }
  key_there (Some e) = e.key

  -- the entry of the event at a place
  abbrev pub entry_at : Events B → ℕ → Entry
  entry_at s p = record { key = record { 0 = key_there (s p) }; place = p }

  -- no two of the heap's entries have one key, and their places have events of these keys; no other place has an event
  pub record IsPlacedHeap (p : Inside B) : Type 0 where
    pub ordered : IsHeap waiting_cmp (heap_items p.heap)
    pub placed : AllByRecursion (IsPlaced (get p.events)) (heap_items p.heap)
    pub distinct : IsDistinct is_same_key (map waiting_key (heap_items p.heap))
    pub counted : shelf_len p.events ≡ heap_len p.heap
