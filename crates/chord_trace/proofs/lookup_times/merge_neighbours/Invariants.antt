use Rattle.std.proofs.Common.{◌≡◌, ℕ, ◌+◌, ◌≤◌, Bool, drop, length, take}
use Rattle.chord_trace.specs.LookupTimes.{counted}
use Rattle.chord_trace.proofs.lookup_times.merge_neighbours.Given as goal

-- the merged entries and those that are left have all times
abbrev pub invariant-loop-next : goal.invariant-loop-next
invariant-loop-next l =
    (l.merged ≤ l.next) × (length l.entries.items ≡ length l.initial.entries.items)
    × ((test : ℕ → Bool) → counted test (take l.merged l.entries.items) + counted test (drop l.next l.entries.items) ≡ counted test l.initial.entries.items)
