-- Keys of events, and their order.
use Rattle.std.specs.Prelude.{◌≡◌, ◌<◌, ◌≤◌, Bool, nat_lt, ◌==◌, ◌&&◌, ◌||◌}
use Rattle.std.specs.Ordering.{nat_cmp, ordering_then}
use Rattle.std.specs.declared.cmp.Ordering.{Ordering}
use Rattle.des_event.specs.declared.key.Key.{Key}

-- a comes before b: by time, then by origin, then by number
pub record IsBefore (a b : Key) : Type 0 where
  pub time : a.time ≤ b.time
  pub origin : a.time ≡ b.time → a.origin ≤ b.origin
  pub number : a.time ≡ b.time → a.origin ≡ b.origin → a.number < b.number

-- a comes before b, or is b
pub record IsAtMost (a b : Key) : Type 0 where
  pub time : a.time ≤ b.time
  pub origin : a.time ≡ b.time → a.origin ≤ b.origin
  pub number : a.time ≡ b.time → a.origin ≡ b.origin → a.number ≤ b.number

-- `IsBefore` as a test: a comes before b
abbrev pub is_before : Key → Key → Bool
is_before a b =
    nat_lt a.time b.time || (a.time == b.time && (nat_lt a.origin b.origin || (a.origin == b.origin && nat_lt a.number b.number)))

-- the two keys have the same time, origin and number; no two events of a run have the same key
abbrev pub is_same_key : Key → Key → Bool
is_same_key a b = a.time == b.time && (a.origin == b.origin && a.number == b.number)

-- which of two keys comes first, as `Key::cmp` returns it
abbrev pub key_cmp : Key → Key → Ordering
key_cmp a b = ordering_then (nat_cmp a.time b.time) (ordering_then (nat_cmp a.origin b.origin) (nat_cmp a.number b.number))
