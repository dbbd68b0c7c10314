use Rattle.std.proofs.Common.{◌≡◌, nat_le, take}
use Rattle.chord_trace.specs.LookupTimes.{counted}
use Rattle.chord_trace.proofs.lookup_times.count_short_up_to.Given as goal

abbrev pub invariant-loop-entry : goal.invariant-loop-entry
invariant-loop-entry l = l.count ≡ counted (λ time. nat_le time l.us) (take l.entry-index l.entries)
