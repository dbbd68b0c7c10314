use Rattle.std.proofs.Common.{◌≡◌, ◌∙◌, ◌+◌, Some, arith, get_or, length, sym, subst, List, refl, ap}
use Rattle.des_event.specs.declared.event.Event.{Event}
use Rattle.des_event.specs.declared.key.Key.{Key}
use Rattle.des_parts.specs.declared.part_run.PartRun.{PartRun}
use Rattle.des_picks.specs.declared.worker.Worker.{Worker}
use Rattle.des_parts.specs.PartRuns.{IsDone, IsNextKey, IsRunning, IsWindow}
use Rattle.des_parts.proofs.Finishing.{none_after, run_left, running_everywhere, running_here, some_after}
use Rattle.des_parts.proofs.Openings.{window_is}
use Rattle.des_picks.proofs.WorkerSteps.{busy_from, has_drawn}
use Rattle.des_picks.proofs.worker.Worker.step.Goals as goal
use Rattle.des_window.specs.declared.opening.Opening.{Opening}

pub returns-in_default-clause-progress : goal.returns-in_default-clause-progress
returns-in_default-clause-progress g c =
    let k = c.args.window.now.machine.now in
    let new : Worker _ _ _ = record { run = Some c.start.result; queue = c.args.self.now.queue } in
    has_drawn (g.M.Machine.model k) (g.M.Machine.Known k) c.args.window.now.world.now c.args.window.now.horizon c.args.drawn c.args.self.now c.requires.may new
    c.start.result c.in_default.is
    c.start.ensures refl refl

pub step-requires-clause-window : goal.step-requires-clause-window
step-requires-clause-window g c =
    let k = c.args.window.now.machine.now in
    let m = g.M.Machine.model k in
    let busy = busy_from m (g.M.Machine.Known k) c.args.window.now.world.now c.args.window.now.horizon c.args.drawn c.args.self.now c.requires.may
    c.in-Some.run' c.in-Some.is in
    let o : Opening = record { time = c.requires.window.next.0; horizon = c.args.window.now.horizon } in
    subst (λ (l : List (Event _)). IsWindow m c.args.window.now.world.now c.args.window.now.horizon l) (sym
    c.as_slice-due.ensures.value)
    (window_is m (g.met.M.Machine.simulable k c.recall.ensures) c.args.window.now.world.now c.requires.window.world o c.requires.window.next.1
    c.in-Some.run'.part
    (omega (arith, busy.0.part, busy.1)) c.index.result.now c.index.ensures)

pub step-requires-clause-running : goal.step-requires-clause-running
step-requires-clause-running g c =
    let k = c.args.window.now.machine.now in
    let m = g.M.Machine.model k in
    let busy = busy_from m (g.M.Machine.Known k) c.args.window.now.world.now c.args.window.now.horizon c.args.drawn c.args.self.now c.requires.may
    c.in-Some.run' c.in-Some.is in
    running_here m c.args.window.now.world.now c.args.window.now.horizon c.in-Some.run' c.args.self.now.queue c.index.result.now
    c.index.ensures
    busy.0.running (sym c.as_slice-due.ensures.value)

pub returns-in-Some-2-clause-progress : goal.returns-in-Some-2-clause-progress
returns-in-Some-2-clause-progress g c =
    let k = c.args.window.now.machine.now in
    let m = g.M.Machine.model k in
    let busy = busy_from m (g.M.Machine.Known k) c.args.window.now.world.now c.args.window.now.horizon c.args.drawn c.args.self.now c.requires.may
    c.in-Some.run' c.in-Some.is in
    let part : c.step.new.self.part ≡ c.in-Some.run'.part = c.in_ok-key.ensures.part in (
      c.in-Some.run',
      busy.0,
      (
        some_after c.in_ok-key.field-0 (λ (key : Key). IsNextKey m c.args.window.now.world.now c.args.window.now.horizon
            c.in-Some.run' key)
            c.in-Some-2.key c.in-Some-2.is c.in_ok-key.ensures.key,
        (
          c.step.new.self,
          record {
            run_is = refl;
            part_is = part;
            more = some_after c.in_ok-key.field-0 (λ (_ : Key). length c.step.new.self.entries.items ≡ length c.in-Some.run'.entries.items + 1)
                c.in-Some-2.key c.in-Some-2.is c.in_ok-key.ensures.more;
            running = running_everywhere m c.args.window.now.world.now c.args.window.now.horizon c.step.new.self
                c.step.new.queue c.index.result.now
                (omega (arith, c.requires.window.world.parts_are, busy.0.part, busy.1, part))
                (c.index.ensures ∙ ap (λ p. get_or c.args.window.now.world.now.parts.items p c.index.result.now) (sym part))
                (subst (λ (l : List (Event _)). IsRunning m (g.M.Machine.Known k) c.args.window.now.world.now c.args.window.now.horizon l
                c.step.new.self c.step.new.queue)
                c.as_slice-due.ensures.value c.in_ok-key.ensures.running);
          },
        ),
      ),
    )

pub returns-in-None-clause-progress : goal.returns-in-None-clause-progress
returns-in-None-clause-progress g c =
    let k = c.args.window.now.machine.now in
    let m = g.M.Machine.model k in
    let sim = g.met.M.Machine.simulable k c.recall.ensures in
    let busy = busy_from m (g.M.Machine.Known k) c.args.window.now.world.now c.args.window.now.horizon c.args.drawn c.args.self.now c.requires.may
    c.in-Some.run' c.in-Some.is in
    let o : Opening = record { time = c.requires.window.next.0; horizon = c.args.window.now.horizon } in
    let win = subst (λ (l : List (Event _)). IsWindow m c.args.window.now.world.now c.args.window.now.horizon l) (sym
    c.as_slice-due.ensures.value)
    (window_is m sim c.args.window.now.world.now c.requires.window.world o c.requires.window.next.1
    c.in-Some.run'.part
    (omega (arith, busy.0.part, busy.1)) c.index.result.now c.index.ensures) in
    let left = c.seal.ensures.left c.step.new.self refl in
    let kept : c.step.new.self ≡ c.in-Some.run' = none_after c.in_ok-key.field-0 _ c.in-None.is c.in_ok-key.ensures.kept in (
      c.in-Some.run',
      busy.0,
      (
        subst (λ p. IsDone m (g.M.Machine.Known k) c.args.window.now.world.now c.args.window.now.horizon p c.seal.result) c.in_ok-key.ensures.part
            (run_left m sim c.args.window.now.world.now c.requires.window.world c.args.window.now.horizon
            c.as_slice-due.result.now win
            c.step.new.self c.step.new.queue c.in_ok-key.ensures.running c.seal.result
            (none_after c.in_ok-key.field-0 _ c.in-None.is c.in_ok-key.ensures.ended) left),
        left.events_are ∙ ap (λ (r : PartRun _ _ _). length r.entries.items) kept,
        c.seal.ensures.idle,
      ),
    )
