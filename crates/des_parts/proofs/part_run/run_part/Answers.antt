use Rattle.std.proofs.Common.{◌∙◌, sym, subst, List}
use Rattle.des_event.specs.declared.event.Event.{Event}
use Rattle.des_parts.specs.PartRuns.{IsDone, IsWindow}
use Rattle.des_parts.proofs.Finishing.{none_after, run_left, running_of}
use Rattle.des_parts.proofs.Openings.{window_is}
use Rattle.des_parts.proofs.part_run.run_part.Goals as goal
use Rattle.des_window.specs.declared.opening.Opening.{Opening}

pub loop-key-init : goal.loop-key-init
loop-key-init g c = record {
  running = running_of (g.M.Machine.model c.args.window.now.machine.now) c.args.window.now.world.now c.args.window.now.horizon c.args.part
      c.start-run.result c.args.queue.now
      c.start-run.ensures
      c.requires.queue c.index-events.result.now c.index-events.ensures (sym c.as_slice-due.ensures.value);
  part = c.start-run.ensures.part_is;
}

pub step-requires-clause-window : goal.step-requires-clause-window
step-requires-clause-window g c =
    let k = c.args.window.now.machine.now in
    let m = g.M.Machine.model k in
    let o : Opening = record { time = c.requires.window.next.0; horizon = c.args.window.now.horizon } in
    subst (λ (l : List (Event _)). IsWindow m c.args.window.now.world.now c.args.window.now.horizon l) (sym
    c.as_slice-due.ensures.value)
    (window_is m (g.met.M.Machine.simulable k c.recall.ensures) c.args.window.now.world.now c.requires.window.world o c.requires.window.next.1
    c.args.part c.requires.part
    c.index-events.result.now c.index-events.ensures)

pub returns-in-Ok-None-clause-done : goal.returns-in-Ok-None-clause-done
returns-in-Ok-None-clause-done g c =
    let k = c.args.window.now.machine.now in
    let m = g.M.Machine.model k in
    let sim = g.met.M.Machine.simulable k c.recall.ensures in
    let o : Opening = record { time = c.requires.window.next.0; horizon = c.args.window.now.horizon } in
    let win = subst (λ (l : List (Event _)). IsWindow m c.args.window.now.world.now c.args.window.now.horizon l) (sym
    c.as_slice-due.ensures.value)
    (window_is m sim c.args.window.now.world.now c.requires.window.world o c.requires.window.next.1
    c.args.part c.requires.part
    c.index-events.result.now c.index-events.ensures) in
    let none = c.in-Ok-None.ensures in
    subst (λ p. IsDone m (g.M.Machine.Known k) c.args.window.now.world.now c.args.window.now.horizon p c.finish.result)
    (none.part ∙ c.loop-key.invariant.part)
    (run_left m sim c.args.window.now.world.now c.requires.window.world c.args.window.now.horizon
    c.as_slice-due.result.now win
    c.step.new.self c.step.new.queue none.running c.finish.result
    (none_after c.in-Ok-None.field-0 _ c.in-Ok-None.field-0-is none.ended) c.finish.ensures)
