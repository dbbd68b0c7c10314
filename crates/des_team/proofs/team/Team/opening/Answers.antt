use Rattle.std.proofs.Common.{arith}
use Rattle.des_team.specs.Chronicles.{chronicle}
use Rattle.des_team.proofs.OpenWindows.{clock_after}
use Rattle.des_team.proofs.team.Team.opening.Goals as goal

pub horizon_from-requires : goal.horizon_from-requires
horizon_from-requires g c =
    let k = c.args.course.now.machine.now in
    record {
      clock = clock_after (chronicle (g.M.Machine.model k) (g.S.Scribe.text k) (g.S.Scribe.HasCounted k)) (g.met.M.Machine.simulable k c.recall.ensures)
          c.args.course.now.layout.now _ _ c.args.self.now c.requires.2 c.in_ok-time.time c.in_ok-time.was
          (omega (arith, c.if-time-duration.false, c.duration.ensures));
    }
