use Rattle.std.proofs.Common.{◌≡◌, ℕ, ◌≤◌, ◌++◌, List, drop, length, map}
use Rattle.des_model.specs.Histories.{history}
use Rattle.des_model.specs.Schedules.{settled}
use Rattle.des_model.specs.Windows.{Step, Window, opened}
use Rattle.des_picks.specs.Picked.{IsPicked, Leads, potential, shown}
use Rattle.des_picks.proofs.picked_window.PickedWindow.take_turns.Given as goal

abbrev pub invariant-loop-lowest : goal.invariant-loop-lowest
invariant-loop-lowest g l = record {
  window : Window _;
  picked : IsPicked (g.M.Machine.model l.window.machine.now) (g.M.Machine.Known l.window.machine.now) l.window.world.now l.window.horizon l.self window;
  same_workers : length l.self.workers.items ≡ length l.initial.self.workers.items;
  steps : List (ℕ × Step _);
  told : l.taken.items ≡ l.initial.taken.items ++ map shown steps;
  leads : Leads (g.M.Machine.model l.window.machine.now) l.window.world.now.division (length l.initial.self.workers.items)
      (opened (history (g.M.Machine.model l.window.machine.now)
      l.window.world.now.count) l.window.horizon)
      (drop l.initial.next l.picks) steps (λ number. settled (g.M.Machine.model l.window.machine.now)
      (λ _. l.window.world.now.division) number window) (drop l.next
      l.picks);
  inside : l.next ≤ length l.picks;
}

abbrev pub decreases-loop-lowest : goal.decreases-loop-lowest
decreases-loop-lowest g l = potential (g.M.Machine.model l.window.machine.now) l.window.world.now l.window.horizon l.self
