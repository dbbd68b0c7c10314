use Rattle.std.proofs.Common.{◌≡◌, ◌+◌, length}
use Rattle.des_team.proofs.run.start_workers.Given as goal

abbrev pub invariant-loop-worker : goal.invariant-loop-worker
invariant-loop-worker g l = length l.links.items + 1 ≡ length l.initial.links.items + l.worker
