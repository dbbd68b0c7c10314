use Rattle.std.proofs.Common.{◌∙◌, ℕ, ◌++◌, ◌∷◌, [], drop, length, refl, sym, subst, append-nil}
use Rattle.des_model.specs.Histories.{history}
use Rattle.des_model.specs.Schedules.{settled}
use Rattle.des_model.specs.Windows.{after_step, opened}
use Rattle.des_picks.specs.Picked.{Leads}
use Rattle.des_picks.proofs.PickedTurns.{begins, leads_on, told_more}
use Rattle.des_picks.proofs.picked_window.PickedWindow.take_turns.Goals as goal

pub loop-lowest-init : goal.loop-lowest-init
loop-lowest-init g c =
    let k = c.args.window.now.machine.now in
    let m = g.M.Machine.model k in
    record {
      window = opened (history m c.args.window.now.world.now.count) c.args.window.now.horizon;
      picked = c.requires.opened;
      same_workers = refl;
      steps = [];
      told = sym (append-nil c.args.taken.now.items);
      leads = begins m c.args.window.now.world.now.division (length c.args.self.now.workers.items)
          (history m c.args.window.now.world.now.count) c.args.window.now.horizon (drop c.args.next.now c.args.picks.now)
          c.recall_division.ensures.few.0;
      inside = c.requires.next;
    }

pub loop-lowest-preserved : goal.loop-lowest-preserved
loop-lowest-preserved g c =
    let k = c.args.window.now.machine.now in
    let m = g.M.Machine.model k in
    let inv = c.loop-lowest.invariant in
    let t = c.in_ok-step.ensures.turned inv.window inv.picked in
    record {
      window = after_step inv.window c.turn-worker.result t.step;
      picked = t.picked;
      same_workers = c.in_ok-step.ensures.workers ∙ inv.same_workers;
      steps = inv.steps ++ (c.turn-worker.result, t.step) ∷ [];
      told = c.in_ok-push.ensures.items ∙ told_more c.args.taken.now.items c.loop-lowest.taken.items inv.steps c.turn-worker.result t.step
          c.in_ok-step.step inv.told t.shown_is;
      leads = subst (λ (n : ℕ). Leads m c.args.window.now.world.now.division n
          (opened (history m c.args.window.now.world.now.count) c.args.window.now.horizon) (drop c.args.next.now
          c.args.picks.now)
          (inv.steps ++ (c.turn-worker.result, t.step) ∷ [])
          (λ number. settled m (λ _. c.args.window.now.world.now.division) number (after_step inv.window
          c.turn-worker.result t.step))
          (drop c.turn-worker.new.next c.args.picks.now)) inv.same_workers
          (leads_on m (g.M.Machine.Known k) c.args.window.now.world.now c.args.window.now.horizon c.loop-lowest.self.drawn
          c.loop-lowest.self.workers.items
          c.loop-lowest.self.dones.items inv.window inv.picked (opened (history m c.args.window.now.world.now.count)
          c.args.window.now.horizon)
          (drop c.args.next.now c.args.picks.now) (drop c.loop-lowest.next c.args.picks.now) (drop c.turn-worker.new.next c.args.picks.now) inv.steps
          c.turn-worker.result t.step
          (subst (λ (n : ℕ). Leads m c.args.window.now.world.now.division n
          (opened (history m c.args.window.now.world.now.count) c.args.window.now.horizon) (drop c.args.next.now
          c.args.picks.now) inv.steps
          (λ number. settled m (λ _. c.args.window.now.world.now.division) number inv.window)
          (drop c.loop-lowest.next c.args.picks.now)) (sym inv.same_workers) inv.leads)
          c.turn-worker.ensures.worker c.turn-worker.ensures.can_go c.turn-worker.ensures.turn t.next_is);
      inside = c.turn-worker.ensures.next;
    }
