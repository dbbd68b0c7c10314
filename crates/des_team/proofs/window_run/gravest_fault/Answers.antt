use Rattle.std.proofs.Common.{arith}
use Rattle.des_team.proofs.WindowFaults.{gravest_at_start, gravest_more, gravest_of_all}
use Rattle.des_team.proofs.window_run.gravest_fault.Goals as goal

pub loop-left-init : goal.loop-left-init
loop-left-init g c = gravest_at_start

pub loop-left-preserved : goal.loop-left-preserved
loop-left-preserved g c = gravest_more c.args.results.now c.loop-left.left-index c.left-item.result c.loop-left.gravest c.graver_of-gravest.result
    c.loop-left-test.true c.left-item.is c.loop-left.invariant c.graver_of-gravest.ensures.none c.graver_of-gravest.ensures.either
    c.graver_of-gravest.ensures.first c.graver_of-gravest.ensures.second

pub returns-clause-gravest : goal.returns-clause-gravest
returns-clause-gravest g c = gravest_of_all c.args.results.now c.loop-left.left-index (omega (arith, c.loop-left-test.false)) c.loop-left.gravest
    c.loop-left.invariant
