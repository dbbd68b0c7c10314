use Rattle.std.proofs.Common.{Err, ap, arith, rules, inl}
use Rattle.des_machine.proofs.Runs.{run_failed, run_stopped}
use Rattle.des_team.specs.Chronicles.{chronicle}
use Rattle.des_team.proofs.RunCourse.{begin_team, opened_still}
use Rattle.des_team.specs.declared.team.Team.{Team}
use Rattle.des_team.proofs.run.drive.Goals as goal

pub returns-in_err-open_window-clause-run : goal.returns-in_err-open_window-clause-run
returns-in_err-open_window-clause-run g c = run_failed (g.S.Scribe.text c.args.course.now.machine.now) (g.M.Machine.model c.args.course.now.machine.now)
    (g.S.Scribe.IsReport c.args.course.now.machine.now) _ _ _ c.in_err-open_window.field-0.0
    (search (rules, c.from_residual.ensures)) (inl c.in_err-open_window.ensures.only)
    (begin_team (chronicle (g.M.Machine.model c.args.course.now.machine.now) (g.S.Scribe.text c.args.course.now.machine.now)
    (g.S.Scribe.HasCounted c.args.course.now.machine.now)) c.args.course.now.layout.now _ _ c.loop-opening.team c.loop-opening.invariant.at)

pub returns-in_err-run_window-clause-run : goal.returns-in_err-run_window-clause-run
returns-in_err-run_window-clause-run g c = run_stopped (g.S.Scribe.text c.args.course.now.machine.now) (g.M.Machine.model c.args.course.now.machine.now)
    (g.S.Scribe.IsReport c.args.course.now.machine.now) _ _ _ c.in_err-run_window.field-0.0
    (search (rules, c.from_residual-in_err-run_window.ensures)) (λ is. c.in_err-run_window.ensures.over (ap Err is))
    (begin_team (chronicle (g.M.Machine.model c.args.course.now.machine.now) (g.S.Scribe.text c.args.course.now.machine.now)
    (g.S.Scribe.HasCounted c.args.course.now.machine.now)) c.args.course.now.layout.now _ _ c.loop-opening.team c.loop-opening.invariant.at)

pub put_window-requires-clause-at : goal.put_window-requires-clause-at
put_window-requires-clause-at g c = (
  _,
  opened_still (chronicle (g.M.Machine.model c.args.course.now.machine.now) (g.S.Scribe.text c.args.course.now.machine.now)
      (g.S.Scribe.HasCounted c.args.course.now.machine.now)) c.args.course.now.layout.now _ _ _ _ c.in_ok-run_window.ensures.others
      c.in_ok-run_window.ensures.can_send
      (c.in_ok-open_window.ensures.at _ _ c.loop-opening.invariant.at),
)

pub loop-opening-preserved : goal.loop-opening-preserved
loop-opening-preserved g c = record {
  at = c.in_ok-put_window.ensures.at _
      (opened_still (chronicle (g.M.Machine.model c.args.course.now.machine.now) (g.S.Scribe.text c.args.course.now.machine.now)
      (g.S.Scribe.HasCounted c.args.course.now.machine.now)) c.args.course.now.layout.now _ _ _ _ c.in_ok-run_window.ensures.others
      c.in_ok-run_window.ensures.can_send
      (c.in_ok-open_window.ensures.at _ _ c.loop-opening.invariant.at));
  sound = search (rules, c.in_ok-put_window.ensures.writer);
}

pub returns-in_err-put_window-clause-run : goal.returns-in_err-put_window-clause-run
returns-in_err-put_window-clause-run g c = run_stopped (g.S.Scribe.text c.args.course.now.machine.now) (g.M.Machine.model c.args.course.now.machine.now)
    (g.S.Scribe.IsReport c.args.course.now.machine.now) _ _ _ c.in_err-put_window.field-0.0
    (search (rules, c.from_residual-in_err-put_window.ensures)) (λ is. c.in_err-put_window.ensures.over (ap Err is))
    (c.put_window.ensures.front _
    (opened_still (chronicle (g.M.Machine.model c.args.course.now.machine.now) (g.S.Scribe.text c.args.course.now.machine.now)
    (g.S.Scribe.HasCounted c.args.course.now.machine.now)) c.args.course.now.layout.now _ _ _ _ c.in_ok-run_window.ensures.others
    c.in_ok-run_window.ensures.can_send
    (c.in_ok-open_window.ensures.at _ _ c.loop-opening.invariant.at)))

pub loop-opening-init : goal.loop-opening-init
loop-opening-init g c = record { at = c.requires.at; sound = c.requires.sound }

pub open_window-requires-clause-at : goal.open_window-requires-clause-at
open_window-requires-clause-at g c = (_, _, c.loop-opening.invariant.at)

pub loop-opening-smaller : goal.loop-opening-smaller
loop-opening-smaller g c = omega (
  arith,
  c.in_ok-put_window.ensures.more,
  c.in_ok-put_window.ensures.within,
  ap (λ (t : Team _ _ _ _ _). t.count) c.in_ok-run_window.ensures.others,
  c.in_ok-open_window.ensures.count,
)

pub overflow_sub-events : goal.overflow_sub-events
overflow_sub-events g c = omega (arith, c.in_ok-put_window.ensures.more, ap (λ (t : Team _ _ _ _ _). t.count) c.in_ok-run_window.ensures.others)

pub finish-requires-clause-at : goal.finish-requires-clause-at
finish-requires-clause-at g c = (_, c.loop-opening.invariant.at)

pub returns-clause-run : goal.returns-clause-run
returns-clause-run g c = c.finish.ensures.run _ c.loop-opening.invariant.at

pub returns-clause-writer : goal.returns-clause-writer
returns-clause-writer g c = c.finish.ensures.writer
