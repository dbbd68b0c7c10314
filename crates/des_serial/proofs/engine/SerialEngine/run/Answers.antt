use Rattle.std.proofs.Common.{ap, arith, rules, Err}
use Rattle.des_machine.proofs.Runs.{begun_at, run_failed, run_stopped}
use Rattle.des_serial.proofs.engine.SerialEngine.run.Goals as goal

pub loop-event-init : goal.loop-event-init
loop-event-init g c = record { at = c.requires.at; sound = c.requires.sound }

pub returns-in_err-event-clause-run : goal.returns-in_err-event-clause-run
returns-in_err-event-clause-run g c =
    let k = c.args.machine.now in
    run_stopped (g.S.Scribe.text k) (g.M.Machine.model k) (g.S.Scribe.IsReport k) _ _ _ c.in_err-event.field-0.0
    (search (rules, c.from_residual.ensures))
    (λ is. c.in_err-event.ensures.over (ap Err is) _ _ c.loop-event.invariant.at)
    (begun_at (g.S.Scribe.text k) (g.M.Machine.model k) _ _ c.loop-event.self.count c.loop-event.invariant.at.written)

pub returns-clause-run : goal.returns-clause-run
returns-clause-run g c = search rules

pub handle-requires-clause-taken : goal.handle-requires-clause-taken
handle-requires-clause-taken g c = (_, (rw c.in-Some.is at c.in_ok-event.ensures.next) _ _ c.loop-event.invariant.at)

pub returns-in_err-handle-clause-run : goal.returns-in_err-handle-clause-run
returns-in_err-handle-clause-run g c =
    let k = c.args.machine.now in
    run_failed (g.S.Scribe.text k) (g.M.Machine.model k) (g.S.Scribe.IsReport k) _ _ _ c.in_err-handle.field-0.0
    (search (rules, c.from_residual-in_err-handle.ensures)) c.in_err-handle.ensures.only
    (c.in_err-handle.ensures.front _ ((rw c.in-Some.is at c.in_ok-event.ensures.next) _ _ c.loop-event.invariant.at))

pub loop-event-preserved : goal.loop-event-preserved
loop-event-preserved g c = record {
  at = c.in_ok-handle.ensures.at _ ((rw c.in-Some.is at c.in_ok-event.ensures.next) _ _ c.loop-event.invariant.at);
  sound = search rules;
}

pub loop-event-smaller : goal.loop-event-smaller
loop-event-smaller g c =
    let taken = (rw c.in-Some.is at c.in_ok-event.ensures.next) _ _ c.loop-event.invariant.at in
    omega (arith, taken.allowed, c.in_ok-event.ensures.count, c.in_ok-handle.ensures.count)
