-- Events at places.
use Rattle.std.specs.Prelude.{
  ◌≡◌,
  ◌≢◌,
  ℕ,
  ◌+◌,
  ◌-◌,
  ◌/◌,
  ◌%◌,
  ◌^◌,
  Bool,
  false,
  cond,
  nat_eq,
  nat_lt,
  nat_le,
  List,
  map,
  Option,
  None,
  option_map,
  is_some,
  IsSome,
  count_by,
  slice_index_or,
}
use Rattle.slab.specs.Slab.{Slab, slab_len}
use Rattle.des_event.specs.declared.brief.Short.{Short}
use Rattle.des_event.specs.declared.event.Event.{Event}
use Rattle.des_queue.specs.declared.shelf.OwnEvent.{OwnEvent}
use Rattle.des_queue.specs.declared.shelf.Shelf.TheInside.{Inside}

-- what contracts see of a shelf: the events that nodes made for themselves, the others, and whether there is room for
-- one more of either kind, at a place below 2 ^ 32
pub record Shelved (B : Type 0) : Type 0 where
  pub own : List (Option (Event B))
  pub others : List (Option (Event B))
  pub ready : Bool

module _ {B : Type 0} where
  -- of what is at the places one changes, to this
  pub record ChangesAt (old new : ℕ → Option (Event B)) (place : ℕ) (slot : Option (Event B)) : Type 0 where
    pub changed : new place ≡ slot
    pub others : (other : ℕ) → other ≢ place → new other ≡ old other

  -- the event at a place: the places of own events are even, and those of others odd
  unfoldable pub get : Shelved B → ℕ → Option (Event B)
  get s place = cond (nat_eq (place % 2) 0) (slice_index_or s.own (place / 2) None) (slice_index_or s.others (place / 2) None)

  -- the place has an event
  abbrev pub ContainsPlace : Shelved B → ℕ → Type 0
  ContainsPlace s place = IsSome (get s place)

  -- the number of events
  abbrev pub shelf_len : Shelved B → ℕ
  shelf_len s = count_by is_some s.own + count_by is_some s.others

-- whether a slab takes one value more without an allocation, and all its keys are below 2 ^ 31
abbrev pub has_room : {T : Type 0} → Slab T → Bool
has_room s = cond (nat_lt (slab_len s) s.capacity) (nat_le s.capacity (2 ^ 31)) false

module _ {B : Type 0} (long : Short → B) where
  -- an event that a node made for itself, with its body
  abbrev pub spelled_out : OwnEvent → Event B
  spelled_out own = record {
    key = record { time = own.time; origin = own.origin; number = own.number };
    target = own.origin - 2;
    body = long (record { kind = own.kind; number = own.value });
  }

  -- what contracts see of a shelf
  abbrev pub shelved : Inside B → Shelved B
  shelved s = record {
    own = map (option_map spelled_out) s.own.slots;
    others = s.others.slots;
    ready = cond (has_room s.own) (has_room s.others) false;
  }
