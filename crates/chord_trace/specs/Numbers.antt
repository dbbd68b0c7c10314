-- Hops and times of lookups.
use Rattle.std.specs.Prelude.{◌≡◌, ℕ, ◌+◌, ◌/◌, ◌<◌, ◌≤◌, nat_le, nat_lt, List, [], ◌∷◌, count_by, fold, length, map, max, min}
use Rattle.chord_trace.specs.declared.found_lookups.Found.{Found}

-- the greatest number, and 0 if there is none
abbrev pub greatest : List ℕ → ℕ
greatest = fold max 0

-- the least number, and 0 if there is none
abbrev pub least : List ℕ → ℕ
least [] = 0
least (n ∷ ns) = fold min n ns

-- how many hops each found lookup took
abbrev pub hops_of : List Found → List ℕ
hops_of = map (λ found. found.hops)

-- how many requests of each found lookup had no reply in time
abbrev pub timeouts_of : List Found → List ℕ
timeouts_of = map (λ found. found.timeouts)

-- the time that each found lookup took from its start, in microseconds
abbrev pub times_of : List Found → List ℕ
times_of = map (λ found. found.us)

-- half of a number, rounded up
abbrev pub half_of : ℕ → ℕ
half_of n = (n + 1) / 2

-- m is the median, the lower of the two middle numbers, and 0 if there is none: fewer than half of the numbers are
-- below it, and at least half are at most it, so it is one of them; defined so it needs no sorting
pub record IsMedian (ns : List ℕ) (m : ℕ) : Type 0 where
  pub none : length ns ≡ 0 → m ≡ 0
  pub below : 0 < length ns → count_by (λ n. nat_lt n m) ns < half_of (length ns)
  pub up_to : half_of (length ns) ≤ count_by (λ n. nat_le n m) ns
