use Rattle.std.proofs.Common.{[], refl, subst, sym}
use Rattle.des_team.specs.declared.output.Output.{Output}
use Rattle.des_team.specs.Outputs.{IsText}
use Rattle.des_team.proofs.window_end.put_part.Goals as goal

pub returns-clause-back : goal.returns-clause-back
returns-clause-back g c = (_, refl, refl, subst (λ (o : Output). IsText [] o) (sym c.replace-output.ensures.after) c.new.ensures)
