use Rattle.std.proofs.Common.{◌∙◌, sym}
use Rattle.chord_scenario.specs.declared.fault.ScenarioFault.TheVariants.{SelfLink}
use Rattle.chord_scenario.specs.Faults.{joins_itself}
use Rattle.chord_scenario.proofs.FirstFound.{table-here, table-later}
use Rattle.chord_scenario.proofs.link_check.self_link_in_commands.Goals as goal

pub returns-then-joins_itself : goal.returns-then-joins_itself
returns-then-joins_itself c =
    table-here SelfLink joins_itself c.args.tables.now c.loop-table.table-index c.table-item.result c.loop-table.invariant c.loop-table-test.true c.table-item.is
    (sym c.joins_itself.ensures ∙ c.if-joins_itself.true)

pub loop-table-preserved : goal.loop-table-preserved
loop-table-preserved c =
    table-later SelfLink joins_itself c.args.tables.now c.loop-table.table-index c.table-item.result c.loop-table.invariant c.loop-table-test.true c.table-item.is
    (sym c.joins_itself.ensures ∙ c.if-joins_itself.false)
