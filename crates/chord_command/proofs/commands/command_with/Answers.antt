use Rattle.std.proofs.Common.{rules, ◌≡◌, ◌∙◌, List, [], ◌∷◌, ap₂, subst}
use Rattle.std.proofs.lemmas.Result.{IfOk-weaker}
use Rattle.clap.specs.Built.{AddsArg, AddsInTurn}
use Rattle.clap.specs.Words.{App, Rule, app_of, new_app, with_rule}
use Rattle.clap.specs.declared.builder.arg.Arg.{Arg}
use Rattle.clap.specs.declared.builder.command.Command.{Command}
use Rattle.chord_command.specs.Commands.{HaveRules, with_rules}
use Rattle.chord_command.proofs.commands.command_with.Goals as goal

-- a command with arguments added in turn has their rules added in turn
added : (c d : Command) (app : App) (arguments : List Arg) (rules : List Rule) → app_of c ≡ app → HaveRules arguments rules
    → AddsInTurn AddsArg c arguments d → app_of d ≡ with_rules app rules
added c d app [] [] is have adds = subst (λ x. app_of x ≡ app) adds is
added c d app [] (r ∷ rules) is have adds = absurd have
added c d app (a ∷ arguments) [] is have adds = absurd have
added c d app (a ∷ arguments) (r ∷ rules) is have adds =
    added adds.0 d (with_rule app r) arguments rules (adds.1.shape have.1 ∙ ap₂ with_rule is have.0) have.2 adds.2

pub returns : goal.returns
returns c =
    let bare : app_of c.in_ok-bin_name.field-0 ≡ new_app c.args.name.now = search (rules, c.in_ok-bin_name.ensures, c.about.ensures, c.new.ensures.app) in
    IfOk-weaker c.args-2.result _ _ (λ r adds rules have. added c.in_ok-bin_name.field-0 r _ c.args.arguments.items rules bare have adds) c.args-2.ensures
