use Rattle.std.proofs.Common.{◌≡◌, length}
use Rattle.des_team.specs.Chronicles.{chronicle}
use Rattle.des_team.specs.Orders.{AreResultsFrom}
use Rattle.des_team.specs.Teams.{CanSend}
use Rattle.des_team.proofs.window_run.finish_parts.Given as goal

abbrev pub invariant-loop-part : goal.invariant-loop-part
invariant-loop-part g l = record {
  long : length l.results.items ≡ l.part;
  each : AreResultsFrom (chronicle (g.M.Machine.model l.course.machine.now) (g.S.Scribe.text l.course.machine.now)
      (g.S.Scribe.HasCounted l.course.machine.now)) l.course.layout.now l.initial.team.count l.initial.team.window.horizon 0 l.results.items;
  can_send : CanSend (chronicle (g.M.Machine.model l.course.machine.now) (g.S.Scribe.text l.course.machine.now)
      (g.S.Scribe.HasCounted l.course.machine.now)) l.course.layout.now l.team;
  others : l.team ≡ record l.initial.team { parcels = l.team.parcels };
}
