use Rattle.std.proofs.Common.{◌≡◌, ◌++◌, drop, map}
use Rattle.chord_scenario.specs.Sections.{section_of}
use Rattle.chord_scenario.specs.Settings.{commands_of}
use Rattle.chord_scenario.proofs.command.commands.Given as goal

-- the commands so far, followed by those of the tables left, are all
abbrev pub invariant-loop-table : goal.invariant-loop-table
invariant-loop-table l = l.commands.items ++ commands_of l.circle l.names.nodes.now (map section_of (drop l.table-index l.tables))
    ≡ commands_of l.circle l.names.nodes.now (map section_of l.tables)
