use Rattle.std.proofs.Common.{◌≡◌, ℕ, ◌+◌, Bool, take}
use Rattle.chord_trace.specs.LookupTimes.{counted, timed}
use Rattle.chord_trace.proofs.lookup_times.LookupTimes.join.Given as goal

abbrev pub invariant-loop-entry : goal.invariant-loop-entry
invariant-loop-entry l = (test : ℕ → Bool) → timed test l.self ≡ timed test l.initial.self + counted test (take l.entry-index l.other.short.items)
