use Rattle.std.proofs.Common.{◌∙◌, sym}
use Rattle.chord_scenario.specs.declared.fault.ScenarioFault.TheVariants.{UnknownNode}
use Rattle.chord_scenario.specs.Latencies.{keeps_unknown}
use Rattle.chord_scenario.proofs.FirstFound.{row-here, row-later}
use Rattle.chord_scenario.proofs.link_check.unknown_in_rows.Goals as goal

pub returns-then-row_names_unknown : goal.returns-then-row_names_unknown
returns-then-row_names_unknown c =
    row-here keeps_unknown c.args.rows.now c.loop-i.i _ UnknownNode c.loop-i.invariant c.loop-i-test.true
    (sym c.row_names_unknown.ensures ∙ c.if-row_names_unknown.true)

pub loop-i-preserved : goal.loop-i-preserved
loop-i-preserved c =
    row-later keeps_unknown c.args.rows.now c.loop-i.i _ c.loop-i.invariant c.loop-i-test.true
    (sym c.row_names_unknown.ensures ∙ c.if-row_names_unknown.false)
