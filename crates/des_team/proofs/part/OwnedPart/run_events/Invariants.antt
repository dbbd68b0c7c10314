use Rattle.std.proofs.Common.{◌≡◌, ◌-◌}
use Rattle.des_team.specs.Chronicles.{chronicle}
use Rattle.des_team.specs.Running.{IsRunning}
use Rattle.des_team.proofs.part.OwnedPart.run_events.Given as goal

abbrev pub invariant-loop-alloc : goal.invariant-loop-alloc
invariant-loop-alloc g l = record {
  running : IsRunning (chronicle (g.M.Machine.model l.machine) (g.S.Scribe.text l.machine)
      (g.S.Scribe.HasCounted l.machine)) l.layout l.window.count l.window.horizon l.events l.soonest l.self l.output;
  part : l.self.part ≡ l.fn.self.part;
}

abbrev pub decreases-loop-alloc : goal.decreases-loop-alloc
decreases-loop-alloc g l = l.room - l.events
