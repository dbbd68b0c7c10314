use Rattle.std.proofs.Common.{◌≡◌, ◌-◌, false}
use Rattle.des_output.specs.Watched.{wrapped, has_failed}
use Rattle.des_parts.specs.WindowEngine.{IsAt}
use Rattle.des_crew.proofs.crew_run.run_windows.Given as goal

abbrev pub invariant-loop-opening : goal.invariant-loop-opening
invariant-loop-opening g l = record {
  at : IsAt (g.S.Scribe.text l.machine) (g.M.Machine.model l.machine) (g.S.Scribe.HasCounted l.machine) (g.W.Write.contents (wrapped l.fn.writer))
      (g.W.Write.contents (wrapped l.writer)) l.engine;
  sound : has_failed l.writer ≡ false;
}

abbrev pub decreases-loop-opening : goal.decreases-loop-opening
decreases-loop-opening g l = (g.M.Machine.model l.machine).max_events - l.engine.world.count
