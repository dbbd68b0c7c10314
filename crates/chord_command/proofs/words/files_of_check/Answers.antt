use Rattle.std.proofs.Common.{rules, ◌∙◌, ◌∷◌, [], ap, map, sym, refl, string_bytes, subst}
use Rattle.std.proofs.lemmas.Result.{IfOk-weaker}
use Rattle.clap.specs.Words.{fault_of, is_simple, is_simple_and_free, matches_of, takes}
use Rattle.chord_command.specs.Orders.{HasFiles}
use Rattle.chord_command.specs.Commands.{latency_rule}
use Rattle.chord_command.proofs.CommandFacts.{check_is_free, check_is_simple, check_rules, scenario_given}
use Rattle.chord_command.proofs.words.files_of_check.Goals as goal

pub files_in-requires : goal.files_in-requires
files_in-requires c =
    scenario_given c.in_ok-command.command c.in_ok-matches.matches c.in_ok-matches.ensures.parsed (latency_rule ∷ [])
    (check_rules c.in_ok-command.command c.in_ok-command.ensures) refl

pub returns-clause-files : goal.returns-clause-files
returns-clause-files c =
    let app = c.in_ok-command.ensures in
    let rows = (c.in_ok-matches.ensures.matches (ap is_simple app ∙ check_is_simple)).0 ∙ ap (λ a. matches_of a (map string_bytes c.args.words.now)) app in
    IfOk-weaker c.files_in.result _ _ (λ f has. subst (λ rs. HasFiles rs f) rows has) c.files_in.ensures.files

pub returns-clause-accepted : goal.returns-clause-accepted
returns-clause-accepted c =
    let app = c.in_ok-command.ensures in
    let none = ap (λ a. fault_of a (map string_bytes c.args.words.now)) (sym app) ∙ c.in_ok-matches.ensures.kinds (ap is_simple_and_free app ∙ check_is_free) in
    IfOk-weaker c.files_in.result _ _ (λ f has. none) c.files_in.ensures.files

pub returns-in_err-matches-clause-taken : goal.returns-in_err-matches-clause-taken
returns-in_err-matches-clause-taken c given =
    let passes = ap (λ a. takes a (map string_bytes c.args.words.now)) c.in_ok-command.ensures ∙ given in
    search (rules, c.in_err-matches.ensures.passes passes, c.from_residual-in_err-matches.ensures)
