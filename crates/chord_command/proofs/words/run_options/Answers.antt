use Rattle.std.proofs.Common.{rules, ◌∙◌, ◌∷◌, [], ap, map, refl, string_bytes, subst, sym}
use Rattle.std.proofs.lemmas.Result.{IfOk-weaker}
use Rattle.clap.specs.Words.{fault_of, is_simple, is_simple_and_free, matches_of, takes}
use Rattle.chord_command.specs.Orders.{HasOptions}
use Rattle.chord_command.specs.Commands.{latency_rule, workers_rule, parts_rule, split_rule, engine_rule, serial_rule, trace_rule}
use Rattle.chord_command.proofs.CommandFacts.{run_is_free, run_is_simple, run_rules, parts_given, scenario_given, workers_given}
use Rattle.chord_command.proofs.words.run_options.Goals as goal

pub run_options_in-options-requires-clause-scenario : goal.run_options_in-options-requires-clause-scenario
run_options_in-options-requires-clause-scenario c =
    let app = c.in_ok-command.ensures in
    scenario_given c.in_ok-command.command c.in_ok-matches.matches c.in_ok-matches.ensures.parsed
    (latency_rule ∷ workers_rule ∷ parts_rule ∷ split_rule app.0.splits ∷ engine_rule app.0.engines ∷ serial_rule ∷ trace_rule ∷ [])
    (run_rules c.in_ok-command.command app.0 app.1) refl

pub run_options_in-options-requires-clause-workers : goal.run_options_in-options-requires-clause-workers
run_options_in-options-requires-clause-workers c =
    let app = c.in_ok-command.ensures in
    workers_given c.in_ok-command.command c.in_ok-matches.matches c.in_ok-matches.ensures.parsed app.0 app.1

pub run_options_in-options-requires-clause-parts : goal.run_options_in-options-requires-clause-parts
run_options_in-options-requires-clause-parts c =
    let app = c.in_ok-command.ensures in
    parts_given c.in_ok-command.command c.in_ok-matches.matches c.in_ok-matches.ensures.parsed app.0 app.1

pub returns-clause-order : goal.returns-clause-order
returns-clause-order c =
    let app = c.in_ok-command.ensures in
    let rows = (c.in_ok-matches.ensures.matches (ap is_simple app.1 ∙ run_is_simple app.0)).0
    ∙ ap (λ a. matches_of a (map string_bytes c.args.words.now)) app.1 in
    let none = ap (λ a. fault_of a (map string_bytes c.args.words.now)) (sym app.1)
    ∙ c.in_ok-matches.ensures.kinds (ap is_simple_and_free app.1 ∙ run_is_free app.0) in
    IfOk-weaker c.run_options_in-options.result _ _ (λ r has. (app.0, none, subst (λ rs. HasOptions rs r.0 r.1 r.2) rows has))
    c.run_options_in-options.ensures.options

pub returns-in_err-matches-clause-taken : goal.returns-in_err-matches-clause-taken
returns-in_err-matches-clause-taken c given =
    let app = c.in_ok-command.ensures in
    let passes = ap (λ a. takes a (map string_bytes c.args.words.now)) app.1 ∙ given app.0 in
    search (rules, c.in_err-matches.ensures.passes passes, c.from_residual-in_err-matches.ensures)
