use Rattle.std.proofs.Common.{◌∙◌, ◌<◌, refl, arith, ap, sym, length}
use Rattle.std.specs.Prelude.{slice_get, nat_lt}
use Rattle.std.specs.List.{filter}
use Rattle.des_machine.proofs.Late.{none_after, one_after, skip_past}
use Rattle.des_machine.proofs.audit_clock.AuditClock.first_after.Goals as goal

pub loop-at-init : goal.loop-at-init
loop-at-init c = record { within = c.self.invariant.0; same = refl }

pub loop-at-preserved : goal.loop-at-preserved
loop-at-preserved c =
    let inside : c.loop-at.at < length c.self.inside.times.items = omega (arith, c.loop-at-test.true, c.len.ensures) in
    record {
      within = omega (arith, inside);
      same = skip_past c.args.time c.self.inside.times.items c.loop-at.at c.index-audit.result.now inside c.index-audit.ensures
          (omega (arith, c.if-audit-time.false)) ∙ c.loop-at.invariant.same;
    }

pub returns-then-audit-time : goal.returns-then-audit-time
returns-then-audit-time c =
    let inside : c.loop-at.at < length c.self.inside.times.items = omega (arith, c.loop-at-test.true, c.len.ensures) in
    sym (ap (λ ts. slice_get (filter (λ t. nat_lt c.args.time t) ts) 0) (sym c.self.view_is)
    ∙ ap (λ ts. slice_get ts 0) (sym c.loop-at.invariant.same)
    ∙ one_after c.args.time c.self.inside.times.items c.loop-at.at c.index-audit.result.now inside c.index-audit.ensures c.if-audit-time.true)

pub returns : goal.returns
returns c =
    sym (ap (λ ts. slice_get (filter (λ t. nat_lt c.args.time t) ts) 0) (sym c.self.view_is)
    ∙ ap (λ ts. slice_get ts 0) (sym c.loop-at.invariant.same)
    ∙ none_after c.args.time c.self.inside.times.items c.loop-at.at (omega (arith, c.loop-at-test.false, c.len.ensures)))
