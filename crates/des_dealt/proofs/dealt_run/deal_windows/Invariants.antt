use Rattle.std.proofs.Common.{◌≡◌, ℕ, ◌-◌, ◌≤◌, false, get_or, length}
use Rattle.des_output.specs.Watched.{wrapped, has_failed}
use Rattle.des_parts.specs.WindowEngine.{IsAt}
use Rattle.des_dealt.proofs.dealt_run.deal_windows.Given as goal

abbrev pub invariant-loop-opening : goal.invariant-loop-opening
invariant-loop-opening g l = record {
  at : IsAt (g.S.Scribe.text l.machine) (g.M.Machine.model l.machine) (g.S.Scribe.HasCounted l.machine) (g.W.Write.contents (wrapped l.fn.writer)) (g.W.Write.contents (wrapped l.writer)) l.engine;
  sound : has_failed l.writer ≡ false;
  long : length l.loads.items ≡ (g.M.Machine.model l.machine).nodes;
  few : (node : ℕ) → get_or l.loads.items node 0 ≤ l.engine.world.count;
}

abbrev pub decreases-loop-opening : goal.decreases-loop-opening
decreases-loop-opening g l = (g.M.Machine.model l.machine).max_events - l.engine.world.count
