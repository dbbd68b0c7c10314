use Rattle.std.proofs.Common.{◌≡◌, ◌-◌, ◌≤◌, drop, length}
use Rattle.std.specs.Prelude.{nat_lt}
use Rattle.std.specs.List.{filter}
use Rattle.des_machine.proofs.audit_clock.AuditClock.first_after.Given as goal

abbrev pub invariant-loop-at : goal.invariant-loop-at
invariant-loop-at l = record {
  within : l.at ≤ length l.self-inside.times.items;
  same : filter (λ t. nat_lt l.time t) (drop l.at l.self-inside.times.items) ≡ filter (λ t. nat_lt l.time t) (drop l.self-inside.next l.self-inside.times.items);
}

abbrev pub decreases-loop-at : goal.decreases-loop-at
decreases-loop-at l = length l.self-inside.times.items - l.at
