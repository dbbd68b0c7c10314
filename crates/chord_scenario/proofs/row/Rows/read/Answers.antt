use Rattle.std.proofs.Common.{◌∙◌, sym, ap, map}
use Rattle.csv.specs.Reading.{default_config, strip_bom}
use Rattle.chord_scenario.specs.Latencies.{kept_link}
use Rattle.chord_scenario.specs.Rows.{rows_of}
use Rattle.chord_scenario.proofs.Records.{records-all}
use Rattle.chord_scenario.proofs.row.Rows.read.Goals as goal

pub invariant_of-result : goal.invariant_of-result
unfolding rows_of
invariant_of-result c =
    let are = c.in_ok-links.ensures in
    record {
      kept = are.are_kept ∙ sym (ap (map (kept_link c.args.names.nodes.now)) (records-all default_config (strip_bom c.args.text.now) are.rows are.are_rows));
    }
