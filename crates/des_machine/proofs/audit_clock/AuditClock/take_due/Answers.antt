use Rattle.std.proofs.Common.{refl, subst, List, ℕ, ◌<◌, length, arith}
use Rattle.std.specs.List.{AllByRecursion}
use Rattle.des_machine.proofs.Late.{late-from}
use Rattle.des_machine.proofs.audit_clock.AuditClock.take_due.Goals as goal
use Rattle.des_model.proofs.Course.{same_read}

pub returns-else-due-time : goal.returns-else-due-time
returns-else-due-time c =
    let inside : c.self.inside.next < length c.self.inside.times.items = omega (arith, c.if-self-len.true, c.len.ensures) in (
      refl,
      subst (λ (ts : List ℕ). AllByRecursion (λ t. c.args.time < t) ts) c.self.view_is
          (late-from c.self.inside.times.items c.self.inside.next c.args.time c.self.invariant.1 inside
          (omega (arith, c.if-due-time.false, c.index-due.ensures, same_read c.self.inside.times.items c.self.inside.next c.index-due.result.now 0 inside))),
    )
