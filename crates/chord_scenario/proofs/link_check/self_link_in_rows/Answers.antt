use Rattle.std.proofs.Common.{◌∙◌, sym}
use Rattle.chord_scenario.specs.declared.fault.ScenarioFault.TheVariants.{SelfLink}
use Rattle.chord_scenario.specs.Latencies.{keeps_itself}
use Rattle.chord_scenario.proofs.FirstFound.{row-here, row-later}
use Rattle.chord_scenario.proofs.link_check.self_link_in_rows.Goals as goal

pub returns-then-row_joins_itself : goal.returns-then-row_joins_itself
returns-then-row_joins_itself c =
    row-here keeps_itself c.args.rows.now c.loop-i.i _ SelfLink c.loop-i.invariant c.loop-i-test.true
    (sym c.row_joins_itself.ensures ∙ c.if-row_joins_itself.true)

pub loop-i-preserved : goal.loop-i-preserved
loop-i-preserved c =
    row-later keeps_itself c.args.rows.now c.loop-i.i _ c.loop-i.invariant c.loop-i-test.true
    (sym c.row_joins_itself.ensures ∙ c.if-row_joins_itself.false)
