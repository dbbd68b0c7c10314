use Rattle.std.proofs.lemmas.Result.{IfOk-weaker}
use Rattle.chord_command.specs.Commands.{judge_app, rules_of_judge}
use Rattle.chord_command.proofs.commands.judge_command.Goals as goal

pub returns : goal.returns
unfolding judge_app
returns c = IfOk-weaker c.command_with.result _ _ (λ r built. built rules_of_judge c.in_ok-judge_arguments.ensures) c.command_with.ensures
