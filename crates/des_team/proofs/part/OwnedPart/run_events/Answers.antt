use Rattle.std.proofs.Common.{◌≡◌, ◌∙◌, ◌+◌, suc, inr, refl, ap, sym, subst, arith}
use Rattle.des_window.specs.Openings.{sooner}
use Rattle.des_team.specs.Chronicles.{chronicle}
use Rattle.des_team.specs.Running.{IsRunning}
use Rattle.des_team.proofs.LeastTimes.{as_tested, due_is_early, first_due, none_due}
use Rattle.des_team.proofs.PartRunning.{may_open, run_ends, run_goes_on, run_has_room, run_is_over, run_is_ready, running_first}
use Rattle.des_team.proofs.part.OwnedPart.run_events.Goals as goal

pub loop-alloc-init : goal.loop-alloc-init
loop-alloc-init g c = record {
  running = running_first _ c.args.layout.now c.args.window.count c.args.window.horizon c.args.self.now c.args.output.now c.requires c.take_in.new.self
      c.in_ok-take_in.ensures.taken;
  part = c.in_ok-take_in.ensures.part;
}

pub returns-then-events-room-clause-failed : goal.returns-then-events-room-clause-failed
returns-then-events-room-clause-failed g c =
    let due = as_tested c.loop-alloc.self.pending c.args.window.horizon c.first_time.ensures c.is_due.ensures c.loop-alloc-test.true in
    let first = first_due c.loop-alloc.self.pending c.args.window.horizon due in
    inr (
      refl,
      run_is_over _ (g.met.M.Machine.simulable c.args.machine.now c.recall.ensures) c.args.layout.now c.requires.layout c.args.window.count
          c.args.window.horizon
          c.requires.opens.0
          (may_open (g.M.Machine.model c.args.machine.now) (g.met.M.Machine.simulable c.args.machine.now c.recall.ensures).well_formed c.args.window.count
          c.args.window.horizon c.requires.opens) c.requires.long
          c.loop-alloc.events c.loop-alloc.soonest c.loop-alloc.self c.loop-alloc.output c.loop-alloc.invariant.running c.recall_order.ensures
          first.event first.rest first.is first.early (omega (arith, c.if-events-room.true, c.max_events.ensures, c.requires.within)),
    )

pub handle-requires-clause-can : goal.handle-requires-clause-can
handle-requires-clause-can g c =
    let due = as_tested c.loop-alloc.self.pending c.args.window.horizon c.first_time.ensures c.is_due.ensures c.loop-alloc-test.true in
    run_is_ready _ (g.met.M.Machine.simulable c.args.machine.now c.recall.ensures) c.args.layout.now c.requires.layout c.args.window.count c.args.window.horizon
    c.requires.opens.0
    (may_open (g.M.Machine.model c.args.machine.now) (g.met.M.Machine.simulable c.args.machine.now c.recall.ensures).well_formed c.args.window.count
    c.args.window.horizon c.requires.opens) c.requires.long
    c.loop-alloc.events c.loop-alloc.soonest c.loop-alloc.self c.loop-alloc.output c.loop-alloc.invariant.running c.recall_order.ensures
    c.in-Some.event c.pop_first.new.self c.in-Some.ensures
    (due_is_early c.loop-alloc.self.pending c.in-Some.event c.pop_first.new.self c.args.window.horizon c.in-Some.ensures due)
    (record c.loop-alloc.self { pending = c.pop_first.new.self }) refl

pub handle-requires-clause-room : goal.handle-requires-clause-room
handle-requires-clause-room g c =
    let due = as_tested c.loop-alloc.self.pending c.args.window.horizon c.first_time.ensures c.is_due.ensures c.loop-alloc-test.true in
    let first = first_due c.loop-alloc.self.pending c.args.window.horizon due in
    omega (
      arith,
      run_has_room _ (g.met.M.Machine.simulable c.args.machine.now c.recall.ensures) c.args.layout.now c.requires.layout c.args.window.count
          c.args.window.horizon
          c.requires.opens.0
          (may_open (g.M.Machine.model c.args.machine.now) (g.met.M.Machine.simulable c.args.machine.now c.recall.ensures).well_formed c.args.window.count
          c.args.window.horizon c.requires.opens) c.requires.long
          c.loop-alloc.events c.loop-alloc.soonest c.loop-alloc.self c.loop-alloc.output c.loop-alloc.invariant.running c.recall_order.ensures
          first.event first.rest first.is first.early (omega (arith, c.if-events-room.false, c.max_events.ensures)),
      g.met.S.Scribe.sized c.args.machine.now _ c.loop-alloc.self.scribe c.loop-alloc.invariant.running.owned.counted,
    )

pub loop-alloc-preserved : goal.loop-alloc-preserved
loop-alloc-preserved g c =
    let ch = chronicle (g.M.Machine.model c.args.machine.now) (g.S.Scribe.text c.args.machine.now) (g.S.Scribe.HasCounted c.args.machine.now) in
    let due = as_tested c.loop-alloc.self.pending c.args.window.horizon c.first_time.ensures c.is_due.ensures c.loop-alloc-test.true in
    let more = run_goes_on _ (g.met.M.Machine.simulable c.args.machine.now c.recall.ensures) c.args.layout.now c.requires.layout c.args.window.count
    c.args.window.horizon
    c.requires.opens.0
    (may_open (g.M.Machine.model c.args.machine.now) (g.met.M.Machine.simulable c.args.machine.now c.recall.ensures).well_formed c.args.window.count
    c.args.window.horizon c.requires.opens) c.requires.long
    c.loop-alloc.events c.loop-alloc.soonest c.loop-alloc.self c.loop-alloc.output c.loop-alloc.invariant.running c.recall_order.ensures
    c.in-Some.event c.pop_first.new.self c.in-Some.ensures
    (due_is_early c.loop-alloc.self.pending c.in-Some.event c.pop_first.new.self c.args.window.horizon c.in-Some.ensures due)
    (record c.loop-alloc.self { pending = c.pop_first.new.self }) c.handle.new.self refl c.handle.new.output c.in_ok-made.made
    c.in_ok-made.ensures.part c.in_ok-made.ensures.handled (omega (arith, c.if-events-room.false, c.max_events.ensures)) in
    record {
      running = subst (λ o. IsRunning ch c.args.layout.now c.args.window.count c.args.window.horizon (c.loop-alloc.events + 1) o
          c.handle.new.self c.handle.new.output) (sym c.sooner-soonest.ensures)
          (subst (λ k. IsRunning ch c.args.layout.now c.args.window.count c.args.window.horizon k
          (sooner c.loop-alloc.soonest c.in_ok-made.made) c.handle.new.self c.handle.new.output)
          (let e : suc c.loop-alloc.events ≡ c.loop-alloc.events + 1 = omega arith in e) more);
      part = c.in_ok-made.ensures.part ∙ c.loop-alloc.invariant.part;
    }

pub returns-clause-ran : goal.returns-clause-ran
returns-clause-ran g c =
    run_ends _ (g.met.M.Machine.simulable c.args.machine.now c.recall.ensures) c.args.layout.now c.requires.layout c.args.window.count c.args.window.horizon
    c.requires.opens.0
    (may_open (g.M.Machine.model c.args.machine.now) (g.met.M.Machine.simulable c.args.machine.now c.recall.ensures).well_formed c.args.window.count
    c.args.window.horizon c.requires.opens) c.requires.long
    c.loop-alloc.events c.loop-alloc.soonest c.loop-alloc.self c.loop-alloc.output c.loop-alloc.invariant.running c.recall_order-2.ensures
    (none_due c.loop-alloc.self.pending c.recall_order-2.ensures c.args.window.horizon
    (as_tested c.loop-alloc.self.pending c.args.window.horizon c.first_time.ensures c.is_due.ensures c.loop-alloc-test.false)) _
    (c.sooner.ensures ∙ ap (λ t. sooner c.loop-alloc.soonest t) c.first_time-2.ensures)
