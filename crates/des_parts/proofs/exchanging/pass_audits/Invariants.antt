use Rattle.std.proofs.Common.{◌≡◌, length}
use Rattle.std.specs.Prelude.{nat_lt}
use Rattle.std.specs.List.{filter}
use Rattle.des_parts.proofs.exchanging.pass_audits.Given as goal

abbrev pub invariant-loop-audit : goal.invariant-loop-audit
invariant-loop-audit l = filter (λ t. nat_lt l.time t) l.clock ≡ filter (λ t. nat_lt l.time t) l.initial.clock

abbrev pub decreases-loop-audit : goal.decreases-loop-audit
decreases-loop-audit l = length l.clock
