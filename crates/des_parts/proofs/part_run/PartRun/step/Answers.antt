use Rattle.std.proofs.Common.{sym, ap, refl, subst, arith, length, [], ◌∷◌, List, length-append}
use Rattle.des_parts.specs.PartRuns.{HasHandled, IsReady, seen_in}
use Rattle.des_parts.proofs.Ahead.{due_at, due_inside, no_first}
use Rattle.des_parts.proofs.StepCases.{all_taken, due_apart, due_few, due_key, due_next, due_over, due_ready, made_apart, made_few, made_key, made_next, made_over, made_ready}
use Rattle.des_parts.proofs.part_run.PartRun.step.Goals as goal
use Rattle.des_parts.specs.Entries.{entry_of}

pub returns-then-full-clause-over : goal.returns-then-full-clause-over
returns-then-full-clause-over g c = λ same.
    let k = c.args.window.now.machine.now in
    let at = due_at c.args.due.now c.args.queue.now.events c.args.self.now.taken (sym c.if-comes_first.ensures) in
    due_over (g.M.Machine.model k) (g.met.M.Machine.simulable k c.recall.ensures) c.args.window.now.world.now c.requires.world
    c.args.window.now.horizon c.args.due.now
    c.requires.window
    c.args.self.now c.args.queue.now c.requires.part c.requires.running c.recall_order.ensures
    (sym c.if-comes_first.ensures) at.0 at.1
    (omega (arith, c.if-full.true, c.len.ensures, c.max_events.ensures, c.args.self.now.entries.ok.0))

pub bounds-due-self : goal.bounds-due-self
bounds-due-self g c = due_inside c.args.due.now c.args.queue.now.events c.args.self.now.taken (sym c.if-comes_first.ensures)

pub handle-requires : goal.handle-requires
handle-requires g c =
    let k = c.args.window.now.machine.now in
    let m = g.M.Machine.model k in (
      c.args.window.now.world.now.division,
      subst (λ (l : List _). IsReady m (g.M.Machine.Sound k) (g.M.Machine.Fit k)
          (g.M.Machine.Room k) c.args.window.now.world.now.division l c.args.self.now c.index-due-self.result) (sym
          c.deref.ensures.value)
          (due_ready m (g.met.M.Machine.simulable k c.recall.ensures) c.args.window.now.world.now c.requires.world c.args.window.now.horizon c.args.due.now
          c.requires.window
          c.args.self.now c.args.queue.now c.requires.part c.requires.running c.recall_order.ensures
          (sym c.if-comes_first.ensures) c.index-due-self.result c.index-due-self.is),
    )

pub overflow_add-self : goal.overflow_add-self
overflow_add-self g c =
    let k = c.args.window.now.machine.now in
    let m = g.M.Machine.model k in
    let h = (subst (λ (l : List _). HasHandled m (g.M.Machine.Known k) c.args.window.now.world.now.division l c.index-due-self.result
    c.args.self.now
    c.handle.new.self c.in_ok-made.made.items) c.deref.ensures.value
    (c.in_ok-made.ensures c.args.window.now.world.now.division (subst (λ (l : List _). IsReady m (g.M.Machine.Sound k) (g.M.Machine.Fit k) (g.M.Machine.Room k)
    c.args.window.now.world.now.division l
    c.args.self.now c.index-due-self.result) (sym c.deref.ensures.value)
    (due_ready m (g.met.M.Machine.simulable k c.recall.ensures) c.args.window.now.world.now c.requires.world c.args.window.now.horizon c.args.due.now
    c.requires.window
    c.args.self.now c.args.queue.now c.requires.part c.requires.running c.recall_order.ensures
    (sym c.if-comes_first.ensures) c.index-due-self.result c.index-due-self.is)))) in
    omega (arith, h.same_taken, due_inside c.args.due.now c.args.queue.now.events c.args.self.now.taken (sym c.if-comes_first.ensures), c.well_formed)

pub sort_out-requires-clause-apart : goal.sort_out-requires-clause-apart
sort_out-requires-clause-apart g c =
    let k = c.args.window.now.machine.now in
    let m = g.M.Machine.model k in
    let sim = g.met.M.Machine.simulable k c.recall.ensures in
    let h = (subst (λ (l : List _). HasHandled m (g.M.Machine.Known k) c.args.window.now.world.now.division l c.index-due-self.result
    c.args.self.now
    c.handle.new.self c.in_ok-made.made.items) c.deref.ensures.value
    (c.in_ok-made.ensures c.args.window.now.world.now.division (subst (λ (l : List _). IsReady m (g.M.Machine.Sound k) (g.M.Machine.Fit k) (g.M.Machine.Room k)
    c.args.window.now.world.now.division l
    c.args.self.now c.index-due-self.result) (sym c.deref.ensures.value)
    (due_ready m sim c.args.window.now.world.now c.requires.world c.args.window.now.horizon c.args.due.now
    c.requires.window
    c.args.self.now c.args.queue.now c.requires.part c.requires.running c.recall_order.ensures
    (sym c.if-comes_first.ensures) c.index-due-self.result c.index-due-self.is)))) in
    due_apart m sim c.args.window.now.world.now c.requires.world c.args.window.now.horizon c.args.due.now
    c.requires.window
    c.args.self.now c.args.queue.now c.requires.part c.requires.running c.recall_order.ensures
    (sym c.if-comes_first.ensures) c.index-due-self.result c.index-due-self.is c.in_ok-made.made.items h.made_is

pub sort_out-requires-clause-few : goal.sort_out-requires-clause-few
sort_out-requires-clause-few g c =
    let k = c.args.window.now.machine.now in
    let m = g.M.Machine.model k in
    let sim = g.met.M.Machine.simulable k c.recall.ensures in
    let h = (subst (λ (l : List _). HasHandled m (g.M.Machine.Known k) c.args.window.now.world.now.division l c.index-due-self.result
    c.args.self.now
    c.handle.new.self c.in_ok-made.made.items) c.deref.ensures.value
    (c.in_ok-made.ensures c.args.window.now.world.now.division (subst (λ (l : List _). IsReady m (g.M.Machine.Sound k) (g.M.Machine.Fit k) (g.M.Machine.Room k)
    c.args.window.now.world.now.division l
    c.args.self.now c.index-due-self.result) (sym c.deref.ensures.value)
    (due_ready m sim c.args.window.now.world.now c.requires.world c.args.window.now.horizon c.args.due.now
    c.requires.window
    c.args.self.now c.args.queue.now c.requires.part c.requires.running c.recall_order.ensures
    (sym c.if-comes_first.ensures) c.index-due-self.result c.index-due-self.is)))) in
    due_few m sim c.args.window.now.world.now c.requires.world c.args.window.now.horizon c.args.due.now
    c.requires.window
    c.args.self.now c.args.queue.now c.requires.part c.requires.running c.recall_order.ensures
    (sym c.if-comes_first.ensures) c.index-due-self.result c.index-due-self.is c.in_ok-made.made.items h.made_is c.handle.new.self h

pub returns-then-comes_first-clause-running : goal.returns-then-comes_first-clause-running
returns-then-comes_first-clause-running g c =
    let k = c.args.window.now.machine.now in
    let m = g.M.Machine.model k in
    let sim = g.met.M.Machine.simulable k c.recall.ensures in
    let h = (subst (λ (l : List _). HasHandled m (g.M.Machine.Known k) c.args.window.now.world.now.division l c.index-due-self.result
    c.args.self.now
    c.handle.new.self c.in_ok-made.made.items) c.deref.ensures.value
    (c.in_ok-made.ensures c.args.window.now.world.now.division (subst (λ (l : List _). IsReady m (g.M.Machine.Sound k) (g.M.Machine.Fit k) (g.M.Machine.Room k)
    c.args.window.now.world.now.division l
    c.args.self.now c.index-due-self.result) (sym c.deref.ensures.value)
    (due_ready m sim c.args.window.now.world.now c.requires.world c.args.window.now.horizon c.args.due.now
    c.requires.window
    c.args.self.now c.args.queue.now c.requires.part c.requires.running c.recall_order.ensures
    (sym c.if-comes_first.ensures) c.index-due-self.result c.index-due-self.is)))) in
    due_next m sim c.args.window.now.world.now c.requires.world c.args.window.now.horizon c.args.due.now
    c.requires.window
    c.args.self.now c.args.queue.now c.requires.part c.requires.running c.recall_order.ensures
    (sym c.if-comes_first.ensures) c.index-due-self.result c.index-due-self.is c.in_ok-made.made.items h.made_is c.handle.new.self _ h
    c.sort_out.new.queue refl refl refl refl (omega (arith, h.same_taken)) c.in_ok-sort_out.ensures.mail
    c.in_ok-sort_out.ensures.queue c.in_ok-sort_out.ensures.ordered c.in_ok-sort_out.ensures.pushes
    (omega (arith, c.if-full.false, c.len.ensures, c.max_events.ensures, c.args.self.now.entries.ok.0))

pub returns-then-comes_first-clause-part : goal.returns-then-comes_first-clause-part
returns-then-comes_first-clause-part g c =
    let k = c.args.window.now.machine.now in
    let m = g.M.Machine.model k in
    let h = (subst (λ (l : List _). HasHandled m (g.M.Machine.Known k)
    c.args.window.now.world.now.division l
    c.index-due-self.result c.args.self.now c.handle.new.self c.in_ok-made.made.items) c.deref.ensures.value
    (c.in_ok-made.ensures c.args.window.now.world.now.division (subst (λ (l : List _). IsReady m (g.M.Machine.Sound k) (g.M.Machine.Fit k) (g.M.Machine.Room k)
    c.args.window.now.world.now.division l
    c.args.self.now c.index-due-self.result) (sym c.deref.ensures.value)
    (due_ready m (g.met.M.Machine.simulable k c.recall.ensures) c.args.window.now.world.now c.requires.world c.args.window.now.horizon c.args.due.now
    c.requires.window
    c.args.self.now c.args.queue.now c.requires.part c.requires.running c.recall_order.ensures
    (sym c.if-comes_first.ensures) c.index-due-self.result c.index-due-self.is)))) in h.same_part

pub returns-then-comes_first-clause-more : goal.returns-then-comes_first-clause-more
returns-then-comes_first-clause-more g c =
    let k = c.args.window.now.machine.now in
    let m = g.M.Machine.model k in
    let h = (subst (λ (l : List _). HasHandled m (g.M.Machine.Known k)
    c.args.window.now.world.now.division l
    c.index-due-self.result c.args.self.now c.handle.new.self c.in_ok-made.made.items) c.deref.ensures.value
    (c.in_ok-made.ensures c.args.window.now.world.now.division (subst (λ (l : List _). IsReady m (g.M.Machine.Sound k) (g.M.Machine.Fit k) (g.M.Machine.Room k)
    c.args.window.now.world.now.division l
    c.args.self.now c.index-due-self.result) (sym c.deref.ensures.value)
    (due_ready m (g.met.M.Machine.simulable k c.recall.ensures) c.args.window.now.world.now c.requires.world c.args.window.now.horizon c.args.due.now
    c.requires.window
    c.args.self.now c.args.queue.now c.requires.part c.requires.running c.recall_order.ensures
    (sym c.if-comes_first.ensures) c.index-due-self.result c.index-due-self.is)))) in
    omega (
      arith,
      ap length h.entries_are,
      length-append c.args.self.now.entries.items
          (entry_of (
            c.index-due-self.result,
            (m.effect (seen_in m c.args.window.now.world.now.states.items c.args.self.now
                c.index-due-self.result.target) c.index-due-self.result).piece,
          ) ∷ []),
    )

pub returns-in_default-clause-running : goal.returns-in_default-clause-running
returns-in_default-clause-running g c =
    let k = c.args.window.now.machine.now in
    (all_taken (g.M.Machine.model k) (g.met.M.Machine.simulable k c.recall.ensures) c.args.window.now.world.now c.requires.world
    c.args.window.now.horizon c.args.due.now
    c.requires.window
    c.args.self.now c.args.queue.now c.requires.part c.requires.running c.recall_order.ensures (sym c.if-comes_first.ensures)
    c.pop_least.follows.lender-at-none c.pop_least.follows.holds-at-none (no_first c.args.queue.now.events c.in_default.ensures.least)).1

pub returns-in_default-clause-ended : goal.returns-in_default-clause-ended
returns-in_default-clause-ended g c =
    let k = c.args.window.now.machine.now in
    (all_taken (g.M.Machine.model k) (g.met.M.Machine.simulable k c.recall.ensures) c.args.window.now.world.now c.requires.world
    c.args.window.now.horizon c.args.due.now
    c.requires.window
    c.args.self.now c.args.queue.now c.requires.part c.requires.running c.recall_order.ensures (sym c.if-comes_first.ensures)
    c.pop_least.follows.lender-at-none c.pop_least.follows.holds-at-none (no_first c.args.queue.now.events c.in_default.ensures.least)).0

pub returns-then-full-2-clause-over : goal.returns-then-full-2-clause-over
returns-then-full-2-clause-over g c = λ same.
    let k = c.args.window.now.machine.now in
    made_over (g.M.Machine.model k) (g.met.M.Machine.simulable k c.recall.ensures) c.args.window.now.world.now c.requires.world
    c.args.window.now.horizon c.args.due.now
    c.requires.window
    c.args.self.now c.args.queue.now c.requires.part c.requires.running c.recall_order.ensures
    (sym c.if-comes_first.ensures) c.in-Some.event.now c.in-Some.ensures.least
    (omega (arith, c.if-full-2.true, c.len.ensures, c.max_events.ensures, c.args.self.now.entries.ok.0))

pub handle-requires-2 : goal.handle-requires-2
handle-requires-2 g c =
    let k = c.args.window.now.machine.now in
    let m = g.M.Machine.model k in (
      c.args.window.now.world.now.division,
      subst (λ (l : List _). IsReady m (g.M.Machine.Sound k) (g.M.Machine.Fit k)
          (g.M.Machine.Room k) c.args.window.now.world.now.division l c.args.self.now c.in-Some.event.now) (sym
          c.deref-2.ensures.value)
          (made_ready m (g.met.M.Machine.simulable k c.recall.ensures) c.args.window.now.world.now c.requires.world c.args.window.now.horizon c.args.due.now
          c.requires.window
          c.args.self.now c.args.queue.now c.requires.part c.requires.running c.recall_order.ensures
          (sym c.if-comes_first.ensures) c.in-Some.event.now c.in-Some.ensures.least),
    )

pub sort_out-requires-2-clause-apart : goal.sort_out-requires-2-clause-apart
sort_out-requires-2-clause-apart g c =
    let k = c.args.window.now.machine.now in
    let m = g.M.Machine.model k in
    let sim = g.met.M.Machine.simulable k c.recall.ensures in
    let h = (subst (λ (l : List _). HasHandled m (g.M.Machine.Known k) c.args.window.now.world.now.division l c.in-Some.event.now c.args.self.now
    c.handle-2.new.self c.in_ok-made-2.made.items) c.deref-2.ensures.value
    (c.in_ok-made-2.ensures c.args.window.now.world.now.division
    (subst (λ (l : List _). IsReady m (g.M.Machine.Sound k) (g.M.Machine.Fit k) (g.M.Machine.Room k)
    c.args.window.now.world.now.division l
    c.args.self.now c.in-Some.event.now) (sym c.deref-2.ensures.value)
    (made_ready m sim c.args.window.now.world.now c.requires.world c.args.window.now.horizon c.args.due.now
    c.requires.window
    c.args.self.now c.args.queue.now c.requires.part c.requires.running c.recall_order.ensures
    (sym c.if-comes_first.ensures) c.in-Some.event.now c.in-Some.ensures.least)))) in
    made_apart m sim c.args.window.now.world.now c.requires.world c.args.window.now.horizon c.args.due.now
    c.requires.window
    c.args.self.now c.args.queue.now c.requires.part c.requires.running c.recall_order.ensures
    (sym c.if-comes_first.ensures) c.in-Some.event.now c.in-Some.ensures.least c.in_ok-made-2.made.items h.made_is c.pop_least.follows.lender-at-none
    c.pop_least.follows.holds-at-none

pub sort_out-requires-2-clause-few : goal.sort_out-requires-2-clause-few
sort_out-requires-2-clause-few g c =
    let k = c.args.window.now.machine.now in
    let m = g.M.Machine.model k in
    let sim = g.met.M.Machine.simulable k c.recall.ensures in
    let h = (subst (λ (l : List _). HasHandled m (g.M.Machine.Known k) c.args.window.now.world.now.division l c.in-Some.event.now c.args.self.now
    c.handle-2.new.self c.in_ok-made-2.made.items) c.deref-2.ensures.value
    (c.in_ok-made-2.ensures c.args.window.now.world.now.division
    (subst (λ (l : List _). IsReady m (g.M.Machine.Sound k) (g.M.Machine.Fit k) (g.M.Machine.Room k)
    c.args.window.now.world.now.division l
    c.args.self.now c.in-Some.event.now) (sym c.deref-2.ensures.value)
    (made_ready m sim c.args.window.now.world.now c.requires.world c.args.window.now.horizon c.args.due.now
    c.requires.window
    c.args.self.now c.args.queue.now c.requires.part c.requires.running c.recall_order.ensures
    (sym c.if-comes_first.ensures) c.in-Some.event.now c.in-Some.ensures.least)))) in
    made_few m sim c.args.window.now.world.now c.requires.world c.args.window.now.horizon c.args.due.now
    c.requires.window
    c.args.self.now c.args.queue.now c.requires.part c.requires.running c.recall_order.ensures
    (sym c.if-comes_first.ensures) c.in-Some.event.now c.in-Some.ensures.least c.in_ok-made-2.made.items h.made_is c.pop_least.follows.lender-at-none
    c.pop_least.follows.holds-at-none c.handle-2.new.self h

pub returns-clause-running : goal.returns-clause-running
returns-clause-running g c =
    let k = c.args.window.now.machine.now in
    let m = g.M.Machine.model k in
    let sim = g.met.M.Machine.simulable k c.recall.ensures in
    let h = (subst (λ (l : List _). HasHandled m (g.M.Machine.Known k) c.args.window.now.world.now.division l c.in-Some.event.now c.args.self.now
    c.handle-2.new.self c.in_ok-made-2.made.items) c.deref-2.ensures.value
    (c.in_ok-made-2.ensures c.args.window.now.world.now.division
    (subst (λ (l : List _). IsReady m (g.M.Machine.Sound k) (g.M.Machine.Fit k) (g.M.Machine.Room k)
    c.args.window.now.world.now.division l
    c.args.self.now c.in-Some.event.now) (sym c.deref-2.ensures.value)
    (made_ready m sim c.args.window.now.world.now c.requires.world c.args.window.now.horizon c.args.due.now
    c.requires.window
    c.args.self.now c.args.queue.now c.requires.part c.requires.running c.recall_order.ensures
    (sym c.if-comes_first.ensures) c.in-Some.event.now c.in-Some.ensures.least)))) in
    made_next m sim c.args.window.now.world.now c.requires.world c.args.window.now.horizon c.args.due.now
    c.requires.window
    c.args.self.now c.args.queue.now c.requires.part c.requires.running c.recall_order.ensures
    (sym c.if-comes_first.ensures) c.in-Some.event.now c.in-Some.ensures.least c.in_ok-made-2.made.items h.made_is c.pop_least.follows.lender-at-none
    c.pop_least.follows.holds-at-none
    c.handle-2.new.self _ h c.sort_out-2.new.queue refl refl refl refl h.same_taken c.in_ok-sort_out-2.ensures.mail
    c.in_ok-sort_out-2.ensures.queue c.in_ok-sort_out-2.ensures.ordered c.in_ok-sort_out-2.ensures.pushes
    (omega (arith, c.if-full-2.false, c.len.ensures, c.max_events.ensures, c.args.self.now.entries.ok.0))

pub returns-clause-part : goal.returns-clause-part
returns-clause-part g c =
    let k = c.args.window.now.machine.now in
    let m = g.M.Machine.model k in
    let h = (subst (λ (l : List _). HasHandled m (g.M.Machine.Known k) c.args.window.now.world.now.division l
    c.in-Some.event.now
    c.args.self.now c.handle-2.new.self c.in_ok-made-2.made.items) c.deref-2.ensures.value
    (c.in_ok-made-2.ensures c.args.window.now.world.now.division
    (subst (λ (l : List _). IsReady m (g.M.Machine.Sound k) (g.M.Machine.Fit k) (g.M.Machine.Room k)
    c.args.window.now.world.now.division l
    c.args.self.now c.in-Some.event.now) (sym c.deref-2.ensures.value)
    (made_ready m (g.met.M.Machine.simulable k c.recall.ensures) c.args.window.now.world.now c.requires.world c.args.window.now.horizon c.args.due.now
    c.requires.window
    c.args.self.now c.args.queue.now c.requires.part c.requires.running c.recall_order.ensures
    (sym c.if-comes_first.ensures) c.in-Some.event.now c.in-Some.ensures.least)))) in h.same_part

pub returns-clause-more : goal.returns-clause-more
returns-clause-more g c =
    let k = c.args.window.now.machine.now in
    let m = g.M.Machine.model k in
    let h = (subst (λ (l : List _). HasHandled m (g.M.Machine.Known k) c.args.window.now.world.now.division l
    c.in-Some.event.now
    c.args.self.now c.handle-2.new.self c.in_ok-made-2.made.items) c.deref-2.ensures.value
    (c.in_ok-made-2.ensures c.args.window.now.world.now.division
    (subst (λ (l : List _). IsReady m (g.M.Machine.Sound k) (g.M.Machine.Fit k) (g.M.Machine.Room k)
    c.args.window.now.world.now.division l
    c.args.self.now c.in-Some.event.now) (sym c.deref-2.ensures.value)
    (made_ready m (g.met.M.Machine.simulable k c.recall.ensures) c.args.window.now.world.now c.requires.world c.args.window.now.horizon c.args.due.now
    c.requires.window
    c.args.self.now c.args.queue.now c.requires.part c.requires.running c.recall_order.ensures
    (sym c.if-comes_first.ensures) c.in-Some.event.now c.in-Some.ensures.least)))) in
    omega (
      arith,
      ap length h.entries_are,
      length-append c.args.self.now.entries.items
          (entry_of (
            c.in-Some.event.now,
            (m.effect (seen_in m c.args.window.now.world.now.states.items c.args.self.now
                c.in-Some.event.now.target) c.in-Some.event.now).piece,
          ) ∷ []),
    )

pub returns-then-comes_first-clause-key : goal.returns-then-comes_first-clause-key
returns-then-comes_first-clause-key g c =
    let k = c.args.window.now.machine.now in
    due_key (g.M.Machine.model k) (g.met.M.Machine.simulable k c.recall.ensures) c.args.window.now.world.now c.requires.world
    c.args.window.now.horizon c.args.due.now
    c.requires.window
    c.args.self.now c.args.queue.now c.requires.part c.requires.running c.recall_order.ensures
    (sym c.if-comes_first.ensures) c.index-due-self.result c.index-due-self.is

pub returns-clause-key : goal.returns-clause-key
returns-clause-key g c =
    let k = c.args.window.now.machine.now in
    made_key (g.M.Machine.model k) (g.met.M.Machine.simulable k c.recall.ensures) c.args.window.now.world.now c.requires.world
    c.args.window.now.horizon c.args.due.now
    c.requires.window
    c.args.self.now c.args.queue.now c.requires.part c.requires.running c.recall_order.ensures
    (sym c.if-comes_first.ensures) c.in-Some.event.now c.in-Some.ensures.least
