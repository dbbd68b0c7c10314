use Rattle.std.proofs.lemmas.Result.{IfOk-weaker}
use Rattle.chord_command.specs.Commands.{run_app, rules_of_run}
use Rattle.chord_command.proofs.commands.run_command.Goals as goal

pub returns : goal.returns
unfolding run_app
returns c =
    let have = c.in_ok-run_arguments.ensures in
    IfOk-weaker c.command_with.result _ _ (λ r built. (have.0, built (rules_of_run have.0) have.1)) c.command_with.ensures
