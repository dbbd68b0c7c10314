use Rattle.std.proofs.Common.{◌≡◌, drop, map}
use Rattle.std.specs.List.{list_any}
use Rattle.chord_scenario.specs.Sections.{section_of}
use Rattle.chord_scenario.specs.Settings.{is_placed_section}
use Rattle.chord_scenario.proofs.keys_check.has_placed_node.Given as goal

-- the tables left decide as all do
abbrev pub invariant-loop-table : goal.invariant-loop-table
invariant-loop-table l = list_any is_placed_section (map section_of (drop l.table-index l.tables)) ≡ list_any is_placed_section (map section_of l.tables)
