use Rattle.std.proofs.Common.{◌∙◌, ap}
use Rattle.chord_scenario.specs.declared.fault.ScenarioFault.TheVariants.{BadLatencyRow}
use Rattle.chord_scenario.specs.Faults.{bad_latency_row}
use Rattle.chord_scenario.specs.Latencies.{kept_link, keeps_bad_row}
use Rattle.chord_scenario.specs.Rows.{rows_of, is_bad_row}
use Rattle.chord_scenario.specs.Search.{row_fault}
use Rattle.chord_scenario.proofs.Kept.{kept_bad, row_fault-kept}
use Rattle.chord_scenario.proofs.link_check.bad_latency_row.Goals as goal

pub returns : goal.returns
unfolding bad_latency_row
returns c =
    let nodes = c.args.rows.now.names.nodes.now in
    let kept = c.deref.ensures.value ∙ c.args.rows.now.kept in
    c.bad_in_rows.ensures ∙ ap (row_fault BadLatencyRow keeps_bad_row) kept
    ∙ row_fault-kept BadLatencyRow (kept_link nodes) keeps_bad_row is_bad_row (kept_bad nodes) (rows_of c.args.rows.now.text.now)
