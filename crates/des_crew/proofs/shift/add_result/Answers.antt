use Rattle.std.proofs.Common.{◌∷◌, ◌++◌, [], subst, sym}
use Rattle.des_crew.specs.Shifts.{AreResults}
use Rattle.des_crew.proofs.Results.{one_more}
use Rattle.des_crew.proofs.shift.add_result.Goals as goal

pub returns-in-Ok-push-clause-results : goal.returns-in-Ok-push-clause-results
returns-in-Ok-push-clause-results g c parts these = subst (AreResults (g.P.PartRunner.IsDone c.args.runner.now) (parts ++ c.args.part ∷ []))
    (sym c.in-Ok-push.ensures.items)
    (one_more (g.P.PartRunner.IsDone c.args.runner.now) parts c.args.list.now.items c.args.part c.in-Ok.done c.in-Ok.ensures.done these)
