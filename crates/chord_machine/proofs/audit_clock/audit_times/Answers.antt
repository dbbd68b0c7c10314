use Rattle.std.proofs.Common.{◌≡◌, ◌∙◌, ◌++◌, ◌∷◌, [], ◌-◌, ◌/◌, ap, arith, rules}
use Rattle.chord_machine.specs.AuditTimes.{audit_times, multiples}
use Rattle.chord_machine.proofs.audit_clock.audit_times.Goals as goal

pub returns : goal.returns
returns c =
    let ends : c.loop-k.k ≡ (c.duration.result - 1) / c.audit.result = omega arith in
    let count : c.loop-k.k ≡ (c.args.scenario.now.duration - 1) / c.args.scenario.now.audit = ends ∙ (λ i. (c.duration.ensures i - 1) / c.audit.ensures i) in
    c.in_ok-push-2.ensures.items ∙ (λ i. (c.loop-k.invariant ∙ ap (multiples c.args.scenario.now.audit) count) i ++ c.duration-2.ensures i ∷ [])

pub loop-k-preserved : goal.loop-k-preserved
loop-k-preserved c = search rules
