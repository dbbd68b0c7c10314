use Rattle.std.proofs.Common.{◌≡◌, ◌-◌, false}
use Rattle.des_output.specs.Watched.{wrapped, has_failed}
use Rattle.des_serial.specs.SerialEngine.{IsAt}
use Rattle.des_serial.proofs.engine.SerialEngine.run.Given as goal

abbrev pub invariant-loop-event : goal.invariant-loop-event
invariant-loop-event g l = record {
  at : IsAt (g.S.Scribe.text l.machine) (g.M.Machine.model l.machine) (g.S.Scribe.HasCounted l.machine) (g.W.Write.contents (wrapped l.fn.writer))
      (g.W.Write.contents (wrapped l.writer)) l.self;
  sound : has_failed l.writer ≡ false;
}

abbrev pub decreases-loop-event : goal.decreases-loop-event
decreases-loop-event g l = (g.M.Machine.model l.machine).max_events - l.self.count
