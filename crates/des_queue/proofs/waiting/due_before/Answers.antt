use Rattle.std.proofs.Common.{arith, rules}
use Rattle.std.proofs.lemmas.Grind.{common_steps}
use Rattle.des_queue.proofs.waiting.due_before.Goals as goal

pub returns-clause-sorted : goal.returns-clause-sorted
returns-clause-sorted c = search rules

pub loop-waiting-preserved : goal.loop-waiting-preserved
loop-waiting-preserved c = grind (arith, common_steps)
