use Rattle.std.proofs.Common.{◌≡◌, ◌≤◌, ◌-◌, drop, false, length}
use Rattle.std.specs.List.{AllByRecursion}
use Rattle.des_output.specs.Watched.{wrapped, has_failed}
use Rattle.des_parts.specs.WindowEngine.{IsAt}
use Rattle.des_picks.specs.PickedRuns.{HasCome}
use Rattle.des_picks.specs.Workers.{IsIdle}
use Rattle.des_picks.proofs.picked_run.run_windows.Given as goal

abbrev pub invariant-loop-opening : goal.invariant-loop-opening
invariant-loop-opening g l = record {
  at : IsAt (g.S.Scribe.text l.machine) (g.M.Machine.model l.machine) (g.S.Scribe.HasCounted l.machine) (g.W.Write.contents (wrapped l.fn.writer))
      (g.W.Write.contents (wrapped l.writer)) l.engine;
  sound : has_failed l.writer ≡ false;
  division : l.engine.world.division ≡ l.fn.engine.world.division;
  workers : length l.picked.workers.items ≡ l.turns.workers;
  idle : AllByRecursion IsIdle l.picked.workers.items;
  inside : l.next ≤ length l.turns.picks.now;
  come : HasCome (g.M.Machine.model l.machine) l.fn.engine.world.division l.turns.workers l.turns.picks.now
      (drop l.next l.turns.picks.now) l.engine.world.count l.taken.items;
}

abbrev pub decreases-loop-opening : goal.decreases-loop-opening
decreases-loop-opening g l = (g.M.Machine.model l.machine).max_events - l.engine.world.count
