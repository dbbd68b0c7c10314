use Rattle.std.proofs.Common.{◌≡◌, ◌+◌, ◌-◌, length}
use Rattle.des_parts.specs.PartRuns.{IsRunning}
use Rattle.des_parts.proofs.part_run.run_part.Given as goal

abbrev pub invariant-loop-key : goal.invariant-loop-key
invariant-loop-key g l = record {
  running : IsRunning (g.M.Machine.model l.window.machine.now) (g.M.Machine.Known l.window.machine.now) l.window.world.now l.window.horizon l.due l.run l.queue;
  part : l.run.part ≡ l.part;
}

abbrev pub decreases-loop-key : goal.decreases-loop-key
decreases-loop-key g l = (g.M.Machine.model l.window.machine.now).max_events - (l.window.world.now.count + length l.run.entries.items)
