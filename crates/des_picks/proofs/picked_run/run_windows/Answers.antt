use Rattle.des_machine.proofs.Runs.{run_refused, run_stopped}
use Rattle.std.proofs.Common.{◌≡◌, ◌∙◌, ap, arith, drop, length, refl, rules, subst, sym, Err}
use Rattle.des_event.specs.declared.error.RunError.TheVariants as run
use Rattle.des_model.specs.Windows.{Division as ADivision}
use Rattle.des_parts.specs.declared.world.World.{World}
use Rattle.des_parts.specs.Exchanges.{AreDone, events_in}
use Rattle.des_picks.specs.Picked.{HasStepped}
use Rattle.des_picks.specs.PickedRuns.{report_in}
use Rattle.des_parts.specs.Worlds.{IsWorldOf}
use Rattle.des_parts.proofs.EngineCourse.{begin_at}
use Rattle.des_picks.proofs.PickedCourse.{all_steps, come_first, come_on}
use Rattle.des_picks.proofs.picked_run.run_windows.Goals as goal

pub loop-opening-init : goal.loop-opening-init
loop-opening-init g c = record {
  at = c.requires.at;
  sound = c.requires.sound;
  division = refl;
  workers = c.in_ok-picked.ensures.workers;
  idle = c.in_ok-picked.ensures.idle;
  inside = omega arith;
  come = come_first (g.M.Machine.model c.args.machine.now) c.args.engine.now.world.division c.args.turns.workers c.args.turns.picks.now
      c.args.engine.now.world.count c.new-taken.result.items
      c.requires.count c.new-taken.ensures.items;
}

pub run-requires-clause-window : goal.run-requires-clause-window
run-requires-clause-window g c = record {
  world = subst (IsWorldOf (g.M.Machine.model c.args.machine.now)) (sym c.world.ensures) c.loop-opening.invariant.at.world;
  next = (c.in-Some.opening.time, ap (λ (w : World _ _). w.opening) c.world.ensures ∙ sym c.opening.ensures ∙ c.in-Some.is);
}

pub returns-in_err-picked-clause-run : goal.returns-in_err-picked-clause-run
returns-in_err-picked-clause-run g c =
    let is : c.from_residual.result ≡ Err run.Memory = search (rules, c.from_residual.ensures) in
    run_refused (g.S.Scribe.text c.args.machine.now) (g.M.Machine.model c.args.machine.now) (g.S.Scribe.IsReport c.args.machine.now) _ _ run.Memory
    (ap report_in is) (λ over. cc)

pub returns-in_err-dones-clause-run : goal.returns-in_err-dones-clause-run
returns-in_err-dones-clause-run g c =
    let k = c.args.machine.now in
    let m = g.M.Machine.model k in
    run_stopped (g.S.Scribe.text k) m (g.S.Scribe.IsReport k) _ _ _ c.in_err-dones.field-0.0 (search (rules, c.from_residual-in_err-dones.ensures))
    (λ is. c.in_err-dones.ensures.over (ap Err is))
    (begin_at (g.S.Scribe.text k) m (g.S.Scribe.HasCounted k) _ _ c.loop-opening.engine c.loop-opening.invariant.at)

pub loop-opening-preserved : goal.loop-opening-preserved
loop-opening-preserved g c =
    let k = c.args.machine.now in
    let m = g.M.Machine.model k in
    let inv = c.loop-opening.invariant in
    record {
      at = c.in_ok-put_window.ensures.at _ inv.at;
      sound = c.in_ok-put_window.ensures.writer;
      division = c.in_ok-put_window.ensures.division ∙ inv.division;
      workers = c.in_ok-dones.ensures.workers ∙ inv.workers;
      idle = c.in_ok-dones.ensures.idle;
      inside = c.in_ok-dones.ensures.next;
      come = come_on m c.loop-opening.engine.world inv.at.world c.args.engine.now.world.division c.args.turns.workers c.args.turns.picks.now
          (drop c.loop-opening.next c.args.turns.picks.now) c.loop-opening.taken.items inv.come
          c.in-Some.opening (sym c.opening.ensures ∙ c.in-Some.is) (drop c.run.new.next c.args.turns.picks.now) c.run.new.taken.items
          (events_in c.in_ok-dones.dones.items) c.put_window.new.self.world.count
          (subst (λ (d : ADivision). HasStepped m d c.args.turns.workers c.loop-opening.engine.world.count c.in-Some.opening.horizon
          (drop c.loop-opening.next c.args.turns.picks.now) (drop c.run.new.next c.args.turns.picks.now) c.loop-opening.taken.items c.run.new.taken.items
          (events_in c.in_ok-dones.dones.items)) inv.division
          (subst (λ n. HasStepped m c.loop-opening.engine.world.division n c.loop-opening.engine.world.count
          c.in-Some.opening.horizon (drop c.loop-opening.next c.args.turns.picks.now) (drop c.run.new.next c.args.turns.picks.now) c.loop-opening.taken.items
          c.run.new.taken.items (events_in c.in_ok-dones.dones.items)) inv.workers
          (subst (λ (w : World _ _). HasStepped m w.division (length c.loop-opening.picked.workers.items) w.count
          c.in-Some.opening.horizon (drop c.loop-opening.next c.args.turns.picks.now) (drop c.run.new.next c.args.turns.picks.now) c.loop-opening.taken.items
          c.run.new.taken.items (events_in c.in_ok-dones.dones.items)) c.world.ensures c.in_ok-dones.ensures.steps)))
          c.in_ok-put_window.ensures.count;
    }

pub returns-clause-steps : goal.returns-clause-steps
returns-clause-steps g c =
    let inv = c.loop-opening.invariant in
    all_steps (g.M.Machine.model c.args.machine.now) c.loop-opening.engine.world inv.at.world c.args.engine.now.world.division c.args.turns.workers
    c.args.turns.picks.now
    (drop c.loop-opening.next c.args.turns.picks.now) c.loop-opening.taken.items inv.come (sym c.opening.ensures ∙ c.in_default.is)

pub put_window-requires-clause-at : goal.put_window-requires-clause-at
put_window-requires-clause-at g c = (_, c.loop-opening.invariant.at)

pub put_window-requires-clause-opening : goal.put_window-requires-clause-opening
put_window-requires-clause-opening g c = sym c.opening.ensures ∙ c.in-Some.is

pub put_window-requires-clause-done : goal.put_window-requires-clause-done
put_window-requires-clause-done g c =
    let k = c.args.machine.now in
    subst (λ (w : World _ _). AreDone (g.M.Machine.model k) (g.M.Machine.Known k) w c.in-Some.opening.horizon c.in_ok-dones.dones.items)
    c.world.ensures c.in_ok-dones.ensures.done

pub returns-in_err-put_window-clause-run : goal.returns-in_err-put_window-clause-run
returns-in_err-put_window-clause-run g c = run_stopped (g.S.Scribe.text c.args.machine.now) (g.M.Machine.model c.args.machine.now)
    (g.S.Scribe.IsReport c.args.machine.now) _ _ _ c.in_err-put_window.field-0.0
    (search (rules, c.from_residual-in_err-put_window.ensures)) (λ is. c.in_err-put_window.ensures.over (ap Err is))
    (c.put_window.ensures.front _ c.loop-opening.invariant.at)

pub loop-opening-smaller : goal.loop-opening-smaller
loop-opening-smaller g c =
    omega (arith, c.in_ok-put_window.ensures.more, (c.in_ok-put_window.ensures.at _ c.loop-opening.invariant.at).world.within)

pub finish-requires-clause-at : goal.finish-requires-clause-at
finish-requires-clause-at g c = (_, c.loop-opening.invariant.at)

pub finish-requires-clause-ended : goal.finish-requires-clause-ended
finish-requires-clause-ended g c = sym c.opening.ensures ∙ c.in_default.is

pub returns-clause-run : goal.returns-clause-run
returns-clause-run g c = rw c.in_ok-report.was at (c.finish.ensures.run _ c.loop-opening.invariant.at)

pub returns-clause-writer : goal.returns-clause-writer
returns-clause-writer g c = c.in_ok-report.ensures.writer
