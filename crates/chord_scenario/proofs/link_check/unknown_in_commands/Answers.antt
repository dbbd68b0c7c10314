use Rattle.std.proofs.Common.{◌∙◌, sym}
use Rattle.chord_scenario.specs.declared.fault.ScenarioFault.TheVariants.{UnknownNode}
use Rattle.chord_scenario.specs.Faults.{command_names_unknown}
use Rattle.chord_scenario.proofs.FirstFound.{table-here, table-later}
use Rattle.chord_scenario.proofs.link_check.unknown_in_commands.Goals as goal

pub returns-then-command_names_unknown : goal.returns-then-command_names_unknown
returns-then-command_names_unknown c =
    table-here UnknownNode (command_names_unknown c.args.names.now.nodes.now) c.args.tables.now c.loop-table.table-index c.table-item.result c.loop-table.invariant c.loop-table-test.true c.table-item.is
    (sym c.command_names_unknown.ensures ∙ c.if-command_names_unknown.true)

pub loop-table-preserved : goal.loop-table-preserved
loop-table-preserved c =
    table-later UnknownNode (command_names_unknown c.args.names.now.nodes.now) c.args.tables.now c.loop-table.table-index c.table-item.result c.loop-table.invariant c.loop-table-test.true c.table-item.is
    (sym c.command_names_unknown.ensures ∙ c.if-command_names_unknown.false)
