use Rattle.std.proofs.Common.{◌≡◌, ◌-◌, false}
use Rattle.des_output.specs.Watched.{wrapped, has_failed}
use Rattle.des_team.specs.Chronicles.{chronicle}
use Rattle.des_team.specs.Teams.{IsTeam}
use Rattle.des_team.proofs.run.drive.Given as goal

abbrev pub invariant-loop-opening : goal.invariant-loop-opening
invariant-loop-opening g l = record {
  at : IsTeam (chronicle (g.M.Machine.model l.course.machine.now) (g.S.Scribe.text l.course.machine.now)
      (g.S.Scribe.HasCounted l.course.machine.now)) l.course.layout.now (g.W.Write.contents (wrapped l.fn.writer))
      (g.W.Write.contents (wrapped l.writer)) l.team;
  sound : has_failed l.writer ≡ false;
}

abbrev pub decreases-loop-opening : goal.decreases-loop-opening
decreases-loop-opening g l = (g.M.Machine.model l.course.machine.now).max_events - l.team.count
