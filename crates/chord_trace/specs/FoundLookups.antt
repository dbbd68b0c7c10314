-- What a tally has of the lookups that were found.
use Rattle.std.specs.Prelude.{◌≡◌, ℕ, Bool, List, count_by, length, sum}
use Rattle.chord_trace.specs.LookupTimes.{timed}
use Rattle.chord_trace.specs.Numbers.{greatest, least, hops_of, timeouts_of, times_of}
use Rattle.chord_trace.specs.declared.found_lookups.FoundLookups.{FoundLookups}
use Rattle.chord_trace.specs.declared.found_lookups.Found.{Found}

-- how many found lookups the tally has
abbrev pub found_len : FoundLookups → ℕ
found_len f = f.len

-- the tally has these found lookups
pub record HasFound (seen : List Found) (f : FoundLookups) : Type 0 where
  pub len : f.len ≡ length seen
  pub hops_sum : f.hops_sum ≡ sum (hops_of seen)
  pub hops_greatest : f.hops_greatest ≡ greatest (hops_of seen)
  pub timeouts_sum : f.timeouts_sum ≡ sum (timeouts_of seen)
  pub us_sum : f.us_sum ≡ sum (times_of seen)
  pub us_least : f.us_least ≡ least (times_of seen)
  pub us_greatest : f.us_greatest ≡ greatest (times_of seen)
  pub times : (test : ℕ → Bool) → timed test f.times ≡ count_by test (times_of seen)
