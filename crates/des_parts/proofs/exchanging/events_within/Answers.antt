use Rattle.std.proofs.Common.{arith, rules}
use Rattle.std.proofs.lemmas.Grind.{common_steps}
use Rattle.des_parts.proofs.exchanging.events_within.Goals as goal

pub overflow_add-events : goal.overflow_add-events
overflow_add-events g c = search rules

pub loop-done-preserved : goal.loop-done-preserved
loop-done-preserved g c = grind (arith, common_steps)
