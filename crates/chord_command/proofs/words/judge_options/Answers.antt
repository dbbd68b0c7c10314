use Rattle.std.proofs.Common.{rules, ◌∙◌, ◌∷◌, [], ap, map, sym, refl, string_bytes, subst}
use Rattle.std.proofs.lemmas.Result.{IfOk-weaker}
use Rattle.clap.specs.Words.{fault_of, is_simple, is_simple_and_free, matches_of, takes}
use Rattle.chord_command.specs.Orders.{IsJudged}
use Rattle.chord_command.specs.Commands.{digest_rule, edges_rule, latency_rule, trace_rule}
use Rattle.chord_command.proofs.CommandFacts.{judge_is_free, judge_is_simple, judge_rules, scenario_given}
use Rattle.chord_command.proofs.words.judge_options.Goals as goal

pub judge_options_in-requires : goal.judge_options_in-requires
judge_options_in-requires c =
    scenario_given c.in_ok-command.command c.in_ok-matches.matches c.in_ok-matches.ensures.parsed (latency_rule ∷ trace_rule ∷ digest_rule ∷ edges_rule ∷ [])
    (judge_rules c.in_ok-command.command c.in_ok-command.ensures) refl

pub returns-clause-options : goal.returns-clause-options
returns-clause-options c =
    let app = c.in_ok-command.ensures in
    let rows = (c.in_ok-matches.ensures.matches (ap is_simple app ∙ judge_is_simple)).0 ∙ ap (λ a. matches_of a (map string_bytes c.args.words.now)) app in
    IfOk-weaker c.judge_options_in.result _ _ (λ f has. subst (λ rs. IsJudged rs f.0 f.1) rows has) c.judge_options_in.ensures.options

pub returns-clause-accepted : goal.returns-clause-accepted
returns-clause-accepted c =
    let app = c.in_ok-command.ensures in
    let none = ap (λ a. fault_of a (map string_bytes c.args.words.now)) (sym app) ∙ c.in_ok-matches.ensures.kinds (ap is_simple_and_free app ∙ judge_is_free) in
    IfOk-weaker c.judge_options_in.result _ _ (λ f has. none) c.judge_options_in.ensures.options

pub returns-in_err-matches-clause-taken : goal.returns-in_err-matches-clause-taken
returns-in_err-matches-clause-taken c given =
    let passes = ap (λ a. takes a (map string_bytes c.args.words.now)) c.in_ok-command.ensures ∙ given in
    search (rules, c.in_err-matches.ensures.passes passes, c.from_residual-in_err-matches.ensures)
