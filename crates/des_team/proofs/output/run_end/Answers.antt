use Rattle.std.proofs.Common.{arith}
use Rattle.std.proofs.lemmas.Grind.{common_steps}
use Rattle.des_team.proofs.output.run_end.Goals as goal

pub loop-after-preserved : goal.loop-after-preserved
loop-after-preserved c = grind (arith, common_steps)
