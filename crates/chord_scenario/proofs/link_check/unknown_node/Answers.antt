use Rattle.std.proofs.Common.{◌≡◌, ◌∙◌, sym, ap}
use Rattle.std.specs.Option.{option_or}
use Rattle.chord_scenario.specs.declared.fault.ScenarioFault.TheVariants.{UnknownNode}
use Rattle.chord_scenario.specs.Faults.{row_names_unknown, unknown_node}
use Rattle.chord_scenario.specs.Latencies.{kept_link, keeps_unknown}
use Rattle.chord_scenario.specs.Rows.{rows_of}
use Rattle.chord_scenario.specs.Search.{row_fault}
use Rattle.chord_scenario.proofs.Kept.{kept_unknown, row_fault-kept}
use Rattle.chord_scenario.proofs.link_check.unknown_node.Goals as goal

pub returns-in-None : goal.returns-in-None
unfolding unknown_node
returns-in-None c =
    let nodes = c.args.rows.now.names.nodes.now in
    let kept = c.deref.ensures.value ∙ c.args.rows.now.kept in
    let all : c.unknown_in_rows.result ≡ row_fault UnknownNode (row_names_unknown nodes) (rows_of c.args.rows.now.text.now) =
    c.unknown_in_rows.ensures ∙ ap (row_fault UnknownNode keeps_unknown) kept
    ∙ row_fault-kept UnknownNode (kept_link nodes) keeps_unknown (row_names_unknown nodes) (kept_unknown nodes) (rows_of c.args.rows.now.text.now) in
    all ∙ sym (ap (λ o. option_or o (row_fault UnknownNode (row_names_unknown nodes) (rows_of c.args.rows.now.text.now)))
    (sym c.unknown_in_commands.ensures ∙ c.in-None.is))
