use Rattle.std.proofs.lemmas.Result.{IfOk-weaker}
use Rattle.chord_command.specs.Commands.{ids_app, rules_of_files}
use Rattle.chord_command.proofs.commands.ids_command.Goals as goal

pub returns : goal.returns
unfolding ids_app
returns c = IfOk-weaker c.command_with.result _ _ (λ r built. built rules_of_files c.in_ok-file_arguments.ensures) c.command_with.ensures
