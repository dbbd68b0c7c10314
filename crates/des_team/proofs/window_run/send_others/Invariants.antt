use Rattle.std.proofs.Common.{◌≡◌, length}
use Rattle.des_team.specs.Chronicles.{chronicle}
use Rattle.des_team.specs.Teams.{CanSend}
use Rattle.des_team.proofs.window_run.send_others.Given as goal

abbrev pub invariant-loop-part : goal.invariant-loop-part
invariant-loop-part g l = record {
  can_send : CanSend (chronicle (g.M.Machine.model l.course.machine.now) (g.S.Scribe.text l.course.machine.now)
      (g.S.Scribe.HasCounted l.course.machine.now)) l.course.layout.now l.team;
  others : l.team ≡ record l.initial.team { parcels = l.team.parcels };
  links : length l.links ≡ length l.initial.links;
}
