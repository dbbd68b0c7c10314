use Rattle.std.proofs.Common.{◌∙◌, sym}
use Rattle.chord_scenario.specs.declared.fault.ScenarioFault.TheVariants.{BadLatencyRow}
use Rattle.chord_scenario.specs.Latencies.{keeps_bad_row}
use Rattle.chord_scenario.proofs.FirstFound.{row-here, row-later}
use Rattle.chord_scenario.proofs.link_check.bad_in_rows.Goals as goal

pub returns-then-is_bad_row : goal.returns-then-is_bad_row
returns-then-is_bad_row c =
    row-here keeps_bad_row c.args.rows.now c.loop-i.i _ BadLatencyRow c.loop-i.invariant c.loop-i-test.true
    (sym c.is_bad_row.ensures ∙ c.if-is_bad_row.true)

pub loop-i-preserved : goal.loop-i-preserved
loop-i-preserved c =
    row-later keeps_bad_row c.args.rows.now c.loop-i.i _ c.loop-i.invariant c.loop-i-test.true
    (sym c.is_bad_row.ensures ∙ c.if-is_bad_row.false)
