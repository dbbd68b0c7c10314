use Rattle.std.proofs.Common.{refl}
use Rattle.des_parts.specs.declared.engine.WindowEngine.{WindowEngine}
use Rattle.des_parts.proofs.EngineCourse.{at_divided}
use Rattle.des_dealt.proofs.dealt_run.redivide.Goals as goal

pub returns-clause-at : goal.returns-clause-at
returns-clause-at g c = λ old now at.
    let k = c.args.machine.now in
    let f : WindowEngine _ _ _ _ _ = record { world = c.divide_again.new.world; journal = c.args.engine.now.journal } in
    at_divided (g.S.Scribe.text k) (g.M.Machine.model k) (g.S.Scribe.HasCounted k) old now c.args.engine.now f c.in_ok-divide_again.ensures.world
    c.in_ok-divide_again.ensures.count refl at

pub returns-clause-count : goal.returns-clause-count
returns-clause-count g c = c.in_ok-divide_again.ensures.count

pub returns-clause-opening : goal.returns-clause-opening
returns-clause-opening g c = c.in_ok-divide_again.ensures.opening

pub returns-clause-division : goal.returns-clause-division
returns-clause-division g c = c.in_ok-divide_again.ensures.division
