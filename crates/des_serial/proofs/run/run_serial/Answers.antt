use Rattle.std.proofs.Common.{rules}
use Rattle.des_machine.proofs.Runs.{run_refused}
use Rattle.des_serial.proofs.run.run_serial.Goals as goal

pub run-outcome-requires-clause-at : goal.run-outcome-requires-clause-at
run-outcome-requires-clause-at g c = c.in_ok-engine.ensures.at _

pub returns-in_err-engine-clause-run : goal.returns-in_err-engine-clause-run
returns-in_err-engine-clause-run g c =
    let k = c.args.machine.now in
    run_refused (g.S.Scribe.text k) (g.M.Machine.model k) (g.S.Scribe.IsReport k) _ _ c.in_err-engine.field-0.0
    (search (rules, c.from_residual.ensures)) (λ is. search (rules, is, c.in_err-engine.ensures.only))
