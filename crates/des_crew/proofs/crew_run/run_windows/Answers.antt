use Rattle.std.proofs.Common.{◌∙◌, ap, arith, rules, subst, sym, Err}
use Rattle.des_machine.proofs.Runs.{run_stopped}
use Rattle.des_parts.specs.declared.world.World.{World}
use Rattle.des_parts.specs.Exchanges.{AreDone}
use Rattle.des_parts.specs.Worlds.{IsWorldOf}
use Rattle.des_parts.proofs.EngineCourse.{begin_at}
use Rattle.des_crew.proofs.crew_run.run_windows.Goals as goal

pub loop-opening-init : goal.loop-opening-init
loop-opening-init g c = record { at = c.requires.at; sound = c.requires.sound }

pub run_parts-requires-clause-window : goal.run_parts-requires-clause-window
run_parts-requires-clause-window g c _ _ =
    let k = c.args.course.now.machine.now in
    record {
      world = subst (IsWorldOf (g.M.Machine.model k)) (sym c.world.ensures) c.loop-opening.invariant.at.world;
      next = (c.in-Some.opening.time, ap (λ (w : World _ _). w.opening) c.world.ensures ∙ sym c.opening.ensures ∙ c.in-Some.is);
    }

pub returns-in_err-dones-clause-run : goal.returns-in_err-dones-clause-run
returns-in_err-dones-clause-run g c =
    let k = c.args.course.now.machine.now in
    run_stopped (g.S.Scribe.text k) (g.M.Machine.model k) (g.S.Scribe.IsReport k) _ _ _ c.in_err-dones.field-0.0 (search (rules, c.from_residual.ensures))
    (λ is. c.in_err-dones.ensures.over (ap Err is))
    (begin_at (g.S.Scribe.text k) (g.M.Machine.model k) (g.S.Scribe.HasCounted k) _ _ c.loop-opening.engine c.loop-opening.invariant.at)

pub put_window-requires-clause-at : goal.put_window-requires-clause-at
put_window-requires-clause-at g c = (_, c.loop-opening.invariant.at)

pub put_window-requires-clause-opening : goal.put_window-requires-clause-opening
put_window-requires-clause-opening g c = sym c.opening.ensures ∙ c.in-Some.is

pub put_window-requires-clause-done : goal.put_window-requires-clause-done
put_window-requires-clause-done g c =
    let k = c.args.course.now.machine.now in
    subst (λ (w : World _ _). AreDone (g.M.Machine.model k) (g.M.Machine.Known k) w c.in-Some.opening.horizon c.in_ok-dones.dones.items)
    c.world.ensures c.in_ok-dones.ensures.done

pub returns-in_err-put_window-clause-run : goal.returns-in_err-put_window-clause-run
returns-in_err-put_window-clause-run g c =
    let k = c.args.course.now.machine.now in
    run_stopped (g.S.Scribe.text k) (g.M.Machine.model k) (g.S.Scribe.IsReport k) _ _ _ c.in_err-put_window.field-0.0
    (search (rules, c.from_residual-in_err-put_window.ensures)) (λ is. c.in_err-put_window.ensures.over (ap Err is))
    (c.put_window.ensures.front _ c.loop-opening.invariant.at)

pub loop-opening-preserved : goal.loop-opening-preserved
loop-opening-preserved g c = record { at = c.in_ok-put_window.ensures.at _ c.loop-opening.invariant.at; sound = c.in_ok-put_window.ensures.writer }

pub loop-opening-smaller : goal.loop-opening-smaller
loop-opening-smaller g c = omega (arith, c.in_ok-put_window.ensures.more, (c.in_ok-put_window.ensures.at _ c.loop-opening.invariant.at).world.within)

pub finish-requires-clause-ended : goal.finish-requires-clause-ended
finish-requires-clause-ended g c = search rules

pub returns-clause-run : goal.returns-clause-run
returns-clause-run g c = c.finish.ensures.run _ c.loop-opening.invariant.at

pub returns-clause-writer : goal.returns-clause-writer
returns-clause-writer g c = c.finish.ensures.writer
