use Rattle.std.proofs.Common.{◌≡◌, ◌≢◌, rules, ℕ, ◌≤◌, ◌∙◌, length, get_or, ap, arith, subst, sym, Err}
use Rattle.des_event.specs.declared.error.RunError.TheVariants as run
use Rattle.des_model.specs.Windows.{Division}
use Rattle.des_machine.proofs.Runs.{run_refused, run_stopped}
use Rattle.des_parts.specs.declared.world.World.{World}
use Rattle.des_parts.specs.Exchanges.{AreDone}
use Rattle.des_parts.specs.Worlds.{IsWorldOf}
use Rattle.des_parts.proofs.EngineCourse.{begin_at}
use Rattle.des_dealt.proofs.EventCounts.{all_nought, as_long, loads_fit, still_few, targets_fit}
use Rattle.des_dealt.proofs.dealt_run.deal_windows.Goals as goal

pub loop-opening-init : goal.loop-opening-init
loop-opening-init g c =
    let noughts = c.in_ok-loads.ensures.items_if_clones_equal (λ _ e. e) in
    record {
      at = c.requires.at;
      sound = c.requires.sound;
      long = as_long c.nodes.result c.in_ok-loads.loads.items noughts ∙ c.nodes.ensures;
      few = λ node. omega (arith, all_nought c.nodes.result node c.in_ok-loads.loads.items noughts);
    }

pub returns-in_err-loads-clause-run : goal.returns-in_err-loads-clause-run
returns-in_err-loads-clause-run g c = run_refused (g.S.Scribe.text c.args.course.now.machine.now) (g.M.Machine.model c.args.course.now.machine.now) (g.S.Scribe.IsReport c.args.course.now.machine.now) _ _ run.Memory (search (rules, c.from_residual.ensures)) (λ over. cc)

pub returns-in_err-division-clause-run : goal.returns-in_err-division-clause-run
returns-in_err-division-clause-run g c = run_stopped (g.S.Scribe.text c.args.course.now.machine.now) (g.M.Machine.model c.args.course.now.machine.now) (g.S.Scribe.IsReport c.args.course.now.machine.now) _ _ _ run.Memory (search (rules, c.from_residual-in_err-division.ensures))
    (λ is. cc) (begin_at (g.S.Scribe.text c.args.course.now.machine.now) (g.M.Machine.model c.args.course.now.machine.now) (g.S.Scribe.HasCounted c.args.course.now.machine.now) _ _ c.loop-opening.engine c.loop-opening.invariant.at)

pub returns-in_err-redivide-clause-run : goal.returns-in_err-redivide-clause-run
returns-in_err-redivide-clause-run g c = run_stopped (g.S.Scribe.text c.args.course.now.machine.now) (g.M.Machine.model c.args.course.now.machine.now) (g.S.Scribe.IsReport c.args.course.now.machine.now) _ _ _ c.in_err-redivide.field-0.0 (search (rules, c.from_residual-in_err-redivide.ensures))
    (λ is. search (rules, is, c.in_err-redivide.ensures.only)) (begin_at (g.S.Scribe.text c.args.course.now.machine.now) (g.M.Machine.model c.args.course.now.machine.now) (g.S.Scribe.HasCounted c.args.course.now.machine.now) _ _ c.loop-opening.engine c.loop-opening.invariant.at)

pub returns-in_err-dones-clause-run : goal.returns-in_err-dones-clause-run
returns-in_err-dones-clause-run g c = run_stopped (g.S.Scribe.text c.args.course.now.machine.now) (g.M.Machine.model c.args.course.now.machine.now) (g.S.Scribe.IsReport c.args.course.now.machine.now) _ _ _ c.in_err-dones.field-0.0 (search (rules, c.from_residual-in_err-dones.ensures))
    (λ is. c.in_err-dones.ensures.over (ap Err is)) (begin_at (g.S.Scribe.text c.args.course.now.machine.now) (g.M.Machine.model c.args.course.now.machine.now) (g.S.Scribe.HasCounted c.args.course.now.machine.now) _ _ c.loop-opening.engine c.loop-opening.invariant.at)

pub run_parts-requires-clause-window : goal.run_parts-requires-clause-window
run_parts-requires-clause-window g c _ _ = record {
  world = subst (IsWorldOf (g.M.Machine.model c.args.course.now.machine.now)) (sym c.world.ensures) (c.in_ok-redivide.ensures.at _ _ c.loop-opening.invariant.at).world;
  next = (
    c.in-Some.opening.time,
    ap (λ (w : World _ _). w.opening) c.world.ensures ∙ (c.in_ok-redivide.ensures.opening ∙ (sym c.opening.ensures ∙ c.in-Some.is)),
  );
}

pub count_events-requires-clause-targets : goal.count_events-requires-clause-targets
count_events-requires-clause-targets g c =
    targets_fit (g.M.Machine.model c.args.course.now.machine.now) c.recall_laws.ensures c.world.result.now c.in-Some.opening.horizon (g.M.Machine.Known c.args.course.now.machine.now)
    c.in_ok-dones.dones.items c.as_slice-in-Some.result.now c.in_ok-dones.ensures.done c.as_slice-in-Some.ensures.value
    c.loop-opening.loads.items c.loop-opening.invariant.long

pub count_events-requires-clause-room : goal.count_events-requires-clause-room
count_events-requires-clause-room g c =
    let world = c.world.result.now in
    let count : world.count ≡ c.loop-opening.engine.world.count = ap (λ (w : World _ _). w.count) c.world.ensures ∙ c.in_ok-redivide.ensures.count in
    let few : (node : ℕ) → get_or c.loop-opening.loads.items node 0 ≤ world.count = λ node. omega (arith, count, c.loop-opening.invariant.few node) in
    let parts : world.division.parts ≤ 512 = omega (
      arith,
      ap (λ (w : World _ _). w.division.parts) c.world.ensures,
      ap (λ (d : Division). d.parts) c.in_ok-redivide.ensures.division,
      ap (λ (d : Division). d.parts) c.division.view_is,
      c.division.invariant.few,
    ) in
    loads_fit (g.M.Machine.model c.args.course.now.machine.now) c.recall_laws.ensures world c.in-Some.opening.horizon (g.M.Machine.Known c.args.course.now.machine.now)
    c.in_ok-dones.dones.items c.as_slice-in-Some.result.now c.in_ok-dones.ensures.done c.as_slice-in-Some.ensures.value
    c.loop-opening.loads.items few (omega (arith, count, c.loop-opening.invariant.at.world.within)) parts

pub loop-opening-preserved : goal.loop-opening-preserved
loop-opening-preserved g c =
    let world = c.world.result.now in
    let count : world.count ≡ c.loop-opening.engine.world.count = ap (λ (w : World _ _). w.count) c.world.ensures ∙ c.in_ok-redivide.ensures.count in
    let few : (node : ℕ) → get_or c.loop-opening.loads.items node 0 ≤ world.count = λ node. omega (arith, count, c.loop-opening.invariant.few node) in
    record {
      at = c.in_ok-put_window.ensures.at _ (c.in_ok-redivide.ensures.at _ _ c.loop-opening.invariant.at);
      sound = c.in_ok-put_window.ensures.writer;
      long = c.count_events.ensures.long ∙ c.loop-opening.invariant.long;
      few = still_few (g.M.Machine.model c.args.course.now.machine.now) c.recall_laws.ensures world c.in-Some.opening.horizon
          (g.M.Machine.Known c.args.course.now.machine.now) c.in_ok-dones.dones.items c.as_slice-in-Some.result.now c.in_ok-dones.ensures.done
          c.as_slice-in-Some.ensures.value _ c.loop-opening.loads.items _ few c.count_events.ensures.counted
          (omega (arith, c.in_ok-put_window.ensures.count, count, c.in_ok-redivide.ensures.count));
    }

pub returns-in_err-put_window-clause-run : goal.returns-in_err-put_window-clause-run
returns-in_err-put_window-clause-run g c = run_stopped (g.S.Scribe.text c.args.course.now.machine.now) (g.M.Machine.model c.args.course.now.machine.now) (g.S.Scribe.IsReport c.args.course.now.machine.now) _ _ _ c.in_err-put_window.field-0.0
    (search (rules, c.from_residual-in_err-put_window.ensures)) (λ is. c.in_err-put_window.ensures.over (ap Err is))
    (c.put_window.ensures.front _ (c.in_ok-redivide.ensures.at _ _ c.loop-opening.invariant.at))

pub redivide-requires : goal.redivide-requires
redivide-requires g c = record { at = (_, _, c.loop-opening.invariant.at) }

pub returns-in_err-redivide-clause-bad : goal.returns-in_err-redivide-clause-bad
returns-in_err-redivide-clause-bad g c is =
    let d = c.in_ok-division.division in
    let named : g.D.Dealer.can_name ((g.M.Machine.model c.args.course.now.machine.now).nodes) d =
    subst (λ n. g.D.Dealer.can_name n d) (ap length c.as_slice.ensures.value ∙ c.loop-opening.invariant.long) c.in_ok-division.ensures.named in
    let other : length d.of_node ≢ (g.M.Machine.model c.args.course.now.machine.now).nodes =
    search (rules, is, c.from_residual-in_err-redivide.ensures, c.in_err-redivide.ensures.bad) in
    (c.loop-opening.invariant.sound, (d, named, other))

pub returns-in_err-dones-clause-bad : goal.returns-in_err-dones-clause-bad
returns-in_err-dones-clause-bad g c is = search (rules, is, c.from_residual-in_err-dones.ensures, c.in_err-dones.ensures.only)

pub put_window-requires-clause-at : goal.put_window-requires-clause-at
put_window-requires-clause-at g c = (_, c.in_ok-redivide.ensures.at _ _ c.loop-opening.invariant.at)

pub put_window-requires-clause-opening : goal.put_window-requires-clause-opening
put_window-requires-clause-opening g c = c.in_ok-redivide.ensures.opening ∙ (sym c.opening.ensures ∙ c.in-Some.is)

pub put_window-requires-clause-done : goal.put_window-requires-clause-done
put_window-requires-clause-done g c = subst (λ (w : World _ _). AreDone (g.M.Machine.model c.args.course.now.machine.now) (g.M.Machine.Known c.args.course.now.machine.now) w c.in-Some.opening.horizon c.in_ok-dones.dones.items)
    c.world.ensures c.in_ok-dones.ensures.done

pub returns-in_err-put_window-clause-bad : goal.returns-in_err-put_window-clause-bad
returns-in_err-put_window-clause-bad g c is = search (rules, is, c.from_residual-in_err-put_window.ensures, c.in_err-put_window.ensures.only)

pub loop-opening-smaller : goal.loop-opening-smaller
loop-opening-smaller g c = omega (
  arith,
  c.in_ok-redivide.ensures.count,
  c.in_ok-put_window.ensures.more,
  (c.in_ok-put_window.ensures.at _ (c.in_ok-redivide.ensures.at _ _ c.loop-opening.invariant.at)).world.within,
)

pub finish-requires-clause-at : goal.finish-requires-clause-at
finish-requires-clause-at g c = (_, c.loop-opening.invariant.at)

pub finish-requires-clause-ended : goal.finish-requires-clause-ended
finish-requires-clause-ended g c = sym c.opening.ensures ∙ c.in_default.is

pub returns-clause-run : goal.returns-clause-run
returns-clause-run g c = c.finish.ensures.run _ c.loop-opening.invariant.at

pub returns-clause-bad : goal.returns-clause-bad
returns-clause-bad g c is = search (rules, is, c.finish.ensures.only)

pub returns-clause-writer : goal.returns-clause-writer
returns-clause-writer g c = c.finish.ensures.writer
