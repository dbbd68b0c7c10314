use Rattle.std.proofs.Common.{◌+◌, ◌*◌}
use Rattle.des_crew.proofs.workers.+workers.Given as goal

abbrev pub decreases-run_workers : goal.decreases-run_workers
decreases-run_workers g l = 2 * l.left + 1

abbrev pub decreases-scope : goal.decreases-scope
decreases-scope g l = 2 * l.left
