use Rattle.std.proofs.Common.{◌≡◌}
use Rattle.chord_machine.specs.AuditTimes.{multiples}
use Rattle.chord_machine.proofs.audit_clock.audit_times.Given as goal

abbrev pub invariant-loop-k : goal.invariant-loop-k
invariant-loop-k l = l.times.items ≡ multiples l.scenario.audit l.k
