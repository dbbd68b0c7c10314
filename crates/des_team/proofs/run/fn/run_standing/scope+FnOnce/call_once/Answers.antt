use Rattle.des_team.proofs.run.fn.run_standing.scope+FnOnce.call_once.Goals as goal

pub returns : goal.returns
returns g c = (c.scope.ensures.same, (c.scope.ensures.run, (c.scope.ensures.writer, c.scope.ensures.only)))
