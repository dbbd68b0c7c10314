-- How many lookups took which time.
use Rattle.std.specs.Prelude.{ℕ, ◌+◌, Bool, cond, List, count_by, sum_by}
use Rattle.chord_trace.specs.declared.lookup_times.LookupTimes.{LookupTimes}
use Rattle.chord_trace.specs.declared.lookup_times.TimeCount.{TimeCount}

-- the counts of the times that pass a test, together
abbrev pub counted : (ℕ → Bool) → List TimeCount → ℕ
counted test = sum_by (λ entry. cond (test entry.us) entry.count 0)

-- how many times pass a test
abbrev pub timed : (ℕ → Bool) → LookupTimes → ℕ
timed test times = counted test times.short.items + count_by test times.long.items
