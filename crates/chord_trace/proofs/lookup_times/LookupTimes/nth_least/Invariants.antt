use Rattle.std.proofs.Common.{◌-◌, ◌<◌, ◌≤◌, nat_le, nat_lt}
use Rattle.chord_trace.specs.LookupTimes.{timed}
use Rattle.chord_trace.proofs.lookup_times.LookupTimes.nth_least.Given as goal

-- the n-th least is between the bounds
abbrev pub invariant-loop-least : goal.invariant-loop-least
invariant-loop-least l =
    (l.least ≤ l.most) × (timed (λ time. nat_lt time l.least) l.self < l.n)
    × (l.n ≤ timed (λ time. nat_le time l.greatest) l.self → l.n ≤ timed (λ time. nat_le time l.most) l.self)

abbrev pub decreases-loop-least : goal.decreases-loop-least
decreases-loop-least l = l.most - l.least
