use Rattle.std.proofs.Common.{arith}
use Rattle.des_team.proofs.run.start_workers.Goals as goal

pub returns-clause-all : goal.returns-clause-all
returns-clause-all g c = λ some.
    omega (arith, some, c.loop-worker.invariant, c.loop-worker-test.false, c.loop-worker.auto.worker-end (omega (arith, some)))
