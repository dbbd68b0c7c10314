use Rattle.std.proofs.Common.{take}
use Rattle.des_team.proofs.WindowFaults.{IsGravest}
use Rattle.des_team.proofs.window_run.gravest_fault.Given as goal

abbrev pub invariant-loop-left : goal.invariant-loop-left
invariant-loop-left g l = IsGravest (take l.left-index l.results) l.gravest
