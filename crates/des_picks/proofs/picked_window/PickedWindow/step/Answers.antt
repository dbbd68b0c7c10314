use Rattle.std.proofs.Common.{◌<◌, arith, sym, subst, ap}
use Rattle.des_picks.specs.declared.step.Step.TheVariants as answer
use Rattle.des_picks.specs.Workers.{HasProgressed}
use Rattle.des_model.specs.Windows.Step.{Drew, Ran, Sealed}
use Rattle.des_picks.proofs.PickedSteps.{drew_few, drew_fewer, drew_next, drew_picked, get_here, may_go, ran_fewer, ran_next, ran_picked, run_within, sealed_fewer, sealed_next, sealed_picked}
use Rattle.des_picks.proofs.picked_window.PickedWindow.step.Goals as goal

pub step-requires-clause-may : goal.step-requires-clause-may
step-requires-clause-may g c =
    let k = c.args.window.now.machine.now in
    may_go (g.M.Machine.model k) (g.M.Machine.Known k) c.args.window.now.world.now c.args.window.now.horizon c.args.self.now.drawn c.args.self.now.workers.items
    c.args.self.now.dones.items
    c.requires.picked.0 c.requires.picked.1 c.args.worker c.index_mut.result.now
    (get_here c.args.self.now.workers.items c.args.worker c.index_mut.result.now c.requires.worker c.index_mut.ensures.value) c.requires.can_go

pub overflow_add-self : goal.overflow_add-self
overflow_add-self g c =
    let k = c.args.window.now.machine.now in
    let m = g.M.Machine.model k in
    let h = subst (HasProgressed m (g.M.Machine.Known k) c.args.window.now.world.now c.args.window.now.horizon c.args.self.now.drawn
    c.index_mut.result.now c.step.new.self)
    c.in-Drew.is c.in_ok-progress.ensures.progress in
    let few = drew_few m (g.M.Machine.Known k) c.args.window.now.world.now c.args.window.now.horizon c.args.self.now.drawn c.args.self.now.workers.items
    c.args.self.now.dones.items c.requires.picked.0 c.requires.picked.1 c.args.worker c.index_mut.result.now
    (get_here c.args.self.now.workers.items c.args.worker c.index_mut.result.now c.requires.worker c.index_mut.ensures.value) c.step.new.self h
    c.requires.can_go in
    omega (arith, few, c.recall_division.ensures.few)

pub returns-in-Drew-clause-turned : goal.returns-in-Drew-clause-turned
returns-in-Drew-clause-turned g c = λ w picked.
    let k = c.args.window.now.machine.now in
    let m = g.M.Machine.model k in
    let h = subst (HasProgressed m (g.M.Machine.Known k) c.args.window.now.world.now c.args.window.now.horizon c.args.self.now.drawn
    c.index_mut.result.now c.step.new.self)
    c.in-Drew.is c.in_ok-progress.ensures.progress in
    let at = get_here c.args.self.now.workers.items c.args.worker c.index_mut.result.now c.requires.worker c.index_mut.ensures.value in
    record {
      step = Drew w.drawn;
      shown_is = ap answer.Drew picked.drawn_is;
      next_is = drew_next m (g.M.Machine.Known k) c.args.window.now.world.now c.args.window.now.horizon c.args.self.now.drawn
          c.args.self.now.workers.items
          c.args.self.now.dones.items w picked c.args.worker c.index_mut.result.now at c.step.new.self h c.requires.can_go;
      picked = drew_picked m (g.M.Machine.Known k) c.args.window.now.world.now c.args.window.now.horizon c.args.self.now.drawn
          c.args.self.now.workers.items
          c.args.self.now.dones.items w picked c.args.worker c.index_mut.result.now at c.step.new.self h c.requires.can_go;
    }

pub returns-in-Drew-clause-fewer : goal.returns-in-Drew-clause-fewer
returns-in-Drew-clause-fewer g c =
    let k = c.args.window.now.machine.now in
    let m = g.M.Machine.model k in
    let h = subst (HasProgressed m (g.M.Machine.Known k) c.args.window.now.world.now c.args.window.now.horizon c.args.self.now.drawn
    c.index_mut.result.now c.step.new.self)
    c.in-Drew.is c.in_ok-progress.ensures.progress in
    let at = get_here c.args.self.now.workers.items c.args.worker c.index_mut.result.now c.requires.worker c.index_mut.ensures.value in
    drew_fewer m (g.M.Machine.Known k) c.args.window.now.world.now c.args.window.now.horizon c.args.self.now.drawn c.args.self.now.workers.items
    c.args.self.now.dones.items
    c.requires.picked.0 c.requires.picked.1 c.args.worker c.index_mut.result.now at c.step.new.self h c.requires.can_go

pub returns-in-Ran-clause-turned : goal.returns-in-Ran-clause-turned
returns-in-Ran-clause-turned g c = λ w picked.
    let k = c.args.window.now.machine.now in
    let m = g.M.Machine.model k in
    let h = subst (HasProgressed m (g.M.Machine.Known k) c.args.window.now.world.now c.args.window.now.horizon c.args.self.now.drawn
    c.index_mut.result.now c.step.new.self)
    c.in-Ran.is c.in_ok-progress.ensures.progress in
    let at = get_here c.args.self.now.workers.items c.args.worker c.index_mut.result.now c.requires.worker c.index_mut.ensures.value in
    record {
      step = Ran h.0.part h.2.0.event;
      shown_is = ap answer.Ran h.2.0.key_is;
      next_is = ran_next m (g.M.Machine.Known k) c.args.window.now.world.now c.args.window.now.horizon c.args.self.now.drawn
          c.args.self.now.workers.items
          c.args.self.now.dones.items w picked c.args.worker c.index_mut.result.now at h.0 h.1 c.step.new.self h.2.1.0 h.2.1.1 c.in-Ran.key h.2.0;
      picked = ran_picked m (g.M.Machine.Known k) c.args.window.now.world.now c.args.window.now.horizon c.args.self.now.drawn
          c.args.self.now.workers.items
          c.args.self.now.dones.items w picked c.args.worker c.index_mut.result.now at h.0 h.1 c.step.new.self h.2.1.0 h.2.1.1 c.in-Ran.key h.2.0;
    }

pub returns-in-Ran-clause-fewer : goal.returns-in-Ran-clause-fewer
returns-in-Ran-clause-fewer g c =
    let k = c.args.window.now.machine.now in
    let m = g.M.Machine.model k in
    let h = subst (HasProgressed m (g.M.Machine.Known k) c.args.window.now.world.now c.args.window.now.horizon c.args.self.now.drawn
    c.index_mut.result.now c.step.new.self)
    c.in-Ran.is c.in_ok-progress.ensures.progress in
    let at = get_here c.args.self.now.workers.items c.args.worker c.index_mut.result.now c.requires.worker c.index_mut.ensures.value in
    let within = run_within m (g.M.Machine.Known k) c.args.window.now.world.now c.requires.window.world c.args.window.now.horizon h.2.1.0
    c.step.new.self.queue
    (omega (arith, h.2.1.1.part_is, h.1.part, c.requires.picked.1.few)) h.2.1.1.running in
    ran_fewer m (g.M.Machine.Known k) c.args.window.now.world.now c.args.window.now.horizon c.args.self.now.drawn c.args.self.now.workers.items
    c.args.self.now.dones.items
    c.requires.picked.0 c.requires.picked.1 c.args.worker c.index_mut.result.now at h.0 h.1 c.step.new.self h.2.1.0 h.2.1.1 c.in-Ran.key h.2.0 within

pub index_mut-requires-in-Sealed : goal.index_mut-requires-in-Sealed
index_mut-requires-in-Sealed g c =
    let k = c.args.window.now.machine.now in
    let h = subst (HasProgressed (g.M.Machine.model k) (g.M.Machine.Known k) c.args.window.now.world.now c.args.window.now.horizon c.args.self.now.drawn
    c.index_mut.result.now c.step.new.self)
    c.in-Sealed.is c.in_ok-progress.ensures.progress in
    let inside : h.0.part < c.args.self.now.drawn = h.1.part in
    omega (arith, inside, h.2.0.part_is, c.requires.picked.1.few, c.requires.picked.1.slots, c.args.self.now.dones.ok.0)

pub returns-in-Sealed-clause-turned : goal.returns-in-Sealed-clause-turned
returns-in-Sealed-clause-turned g c = λ w picked.
    let k = c.args.window.now.machine.now in
    let m = g.M.Machine.model k in
    let h = subst (HasProgressed m (g.M.Machine.Known k) c.args.window.now.world.now c.args.window.now.horizon c.args.self.now.drawn
    c.index_mut.result.now c.step.new.self)
    c.in-Sealed.is c.in_ok-progress.ensures.progress in
    let at = get_here c.args.self.now.workers.items c.args.worker c.index_mut.result.now c.requires.worker c.index_mut.ensures.value in
    record {
      step = Sealed h.0.part;
      shown_is = ap answer.Sealed (sym h.2.0.part_is);
      next_is = sealed_next m (g.M.Machine.Known k) c.args.window.now.world.now c.args.window.now.horizon c.args.self.now.drawn
          c.args.self.now.workers.items
          c.args.self.now.dones.items w picked c.args.worker c.index_mut.result.now at h.0 h.1 c.step.new.self c.in-Sealed.done h.2.0 h.2.1 h.2.2;
      picked = sealed_picked m (g.M.Machine.Known k) c.args.window.now.world.now c.args.window.now.horizon c.args.self.now.drawn
          c.args.self.now.workers.items
          c.args.self.now.dones.items w picked c.args.worker c.index_mut.result.now at h.0 h.1 c.step.new.self c.in-Sealed.done h.2.0 h.2.1 h.2.2;
    }

pub returns-in-Sealed-clause-fewer : goal.returns-in-Sealed-clause-fewer
returns-in-Sealed-clause-fewer g c =
    let k = c.args.window.now.machine.now in
    let m = g.M.Machine.model k in
    let h = subst (HasProgressed m (g.M.Machine.Known k) c.args.window.now.world.now c.args.window.now.horizon c.args.self.now.drawn
    c.index_mut.result.now c.step.new.self)
    c.in-Sealed.is c.in_ok-progress.ensures.progress in
    let at = get_here c.args.self.now.workers.items c.args.worker c.index_mut.result.now c.requires.worker c.index_mut.ensures.value in
    sealed_fewer m (g.M.Machine.Known k) c.args.window.now.world.now c.args.window.now.horizon c.args.self.now.drawn c.args.self.now.workers.items
    c.args.self.now.dones.items
    c.requires.picked.0 c.requires.picked.1 c.args.worker c.index_mut.result.now at h.0 h.1 c.step.new.self c.in-Sealed.done h.2.0 h.2.1 h.2.2
