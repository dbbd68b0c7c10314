use Rattle.std.proofs.Common.{◌∙◌, ap, sym}
use Rattle.std.specs.Prelude.{nat_lt}
use Rattle.std.specs.List.{filter}
use Rattle.des_machine.proofs.Puts.{all-left, left-first}
use Rattle.des_parts.proofs.exchanging.pass_audits.Goals as goal

pub loop-audit-preserved : goal.loop-audit-preserved
loop-audit-preserved c =
    sym (ap (filter (λ t. nat_lt c.args.time t)) c.in-Some.ensures.0 ∙ left-first c.args.time c.in-Some._audit _ c.in-Some.ensures.1)
    ∙ c.loop-audit.invariant

pub returns : goal.returns
returns c = c.in_default.ensures.0 ∙ sym (all-left c.args.time c.loop-audit.clock c.in_default.ensures.1) ∙ c.loop-audit.invariant
