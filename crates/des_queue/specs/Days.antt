-- Events by day.
use Rattle.std.specs.Prelude.{◌≡◌, ℕ, ◌+◌, ◌/◌, ◌%◌, ◌<◌, ◌≤◌, List, [], ◌∷◌, ⊤, map, length, slice_index_or, vec_len, vec_capacity, Some, None, IsSomeAnd, true}
use Rattle.std.specs.List.{AllByRecursion, flat_map}
use Rattle.std.specs.List.Sorted.{IsPermutation}
use Rattle.std.specs.Global.{Vec}
use Rattle.des_queue.specs.Shelf.{ChangesAt, get}
use Rattle.des_event.specs.declared.event.Event.{Event}
use Rattle.des_event.specs.declared.key.Key.{Key}
use Rattle.des_queue.specs.Places.{Events, Entry, entry_at, waiting_key}
use Rattle.des_queue.specs.declared.days.Days.{Days}

-- how many days have a list
abbrev pub list_count : ℕ
list_count = 2048

-- the day of a key: a day has 1,024 microseconds
abbrev pub day_of : Key → ℕ
day_of k = k.time / 1024

module _ {B : Type 0} where
  -- the places in the lists
  abbrev pub places_in : Days B → List ℕ
  places_in d = flat_map (λ l. l.items) d.lists.items

  -- the entries of the events at these places
  abbrev pub entries_in : Days B → List Entry
  entries_in d = map (entry_at (get d.events)) (places_in d)

  -- the lists of all days are empty: no event is of a day after the opened ones
  abbrev pub HaveNone : Days B → Type 0
  HaveNone d = places_in d ≡ []

  -- the event's place may be in the list at the index
  pub record IsInPlace (today latest at : ℕ) (e : Event B) : Type 0 where
    pub later : today < day_of e.key
    pub soon : day_of e.key < today + list_count
    pub known : day_of e.key ≤ latest
    pub there : day_of e.key % list_count ≡ at

  -- the place has an event, and may be in the list at the index
  abbrev pub IsListed : Events B → (today latest at place : ℕ) → Type 0
  IsListed s today latest at p = IsSomeAnd (s p) (IsInPlace today latest at)

-- P holds of each place in a list and of the list's index
abbrev pub AllPlaced : (P : ℕ → ℕ → Type 0) → ℕ → List (Vec ℕ) → Type 0
AllPlaced P i [] = ⊤
AllPlaced P i (l ∷ ls) = AllByRecursion (P i) l.items × AllPlaced P (i + 1) ls

module _ {B : Type 0} where
  -- each place in a list has an event of the list's day, and no list has more than this many
  pub record AreDays (d : Days B) (room : ℕ) : Type 0 where
    pub placed : AllPlaced (IsListed (get d.events) d.today d.latest) 0 d.lists.items
    pub fit : AllByRecursion (λ l. length l.items ≤ room) d.lists.items

  -- no entry's day is after the day that was opened last
  abbrev pub IsOpened : Days B → List Entry → Type 0
  IsOpened d ws = AllByRecursion (λ w. day_of (waiting_key w) ≤ d.today) ws

  -- the same events are at the same places, and in the lists
  pub record HasSame (old new : Days B) : Type 0 where
    pub today : new.today ≡ old.today
    pub events : get new.events ≡ get old.events
    pub places : places_in new ≡ places_in old

  -- there is room for an event of this time at a place below 2 ^ 32, and for that place in the list at the index
  pub record MayTake (d : Days B) (time at room : ℕ) : Type 0 where
    pub later : d.today < time / 1024
    pub soon : time / 1024 < d.today + list_count
    pub there : (time / 1024) % list_count ≡ at
    pub listed : at < length d.lists.items
    pub fit : (l : Vec ℕ) → length (slice_index_or d.lists.items at l).items < room
    pub free : (l : Vec ℕ) → vec_len (slice_index_or d.lists.items at l) < vec_capacity (slice_index_or d.lists.items at l)
    pub vacant : d.events.ready ≡ true

  -- the event is at a place that was free, and in a list
  pub record HasTaken (old : Days B) (e : Event B) (new : Days B) : Type 0 where
    pub place : ℕ
    pub today : new.today ≡ old.today
    pub free : get old.events place ≡ None
    pub changed : ChangesAt (get old.events) (get new.events) place (Some e)
    pub places : IsPermutation (place ∷ places_in old) (places_in new)
