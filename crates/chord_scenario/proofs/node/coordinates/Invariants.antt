use Rattle.std.proofs.Common.{◌≡◌, ◌++◌, drop, map}
use Rattle.std.specs.List.{flat_map}
use Rattle.chord_scenario.specs.Sections.{section_of}
use Rattle.chord_scenario.specs.Settings.{places_at}
use Rattle.chord_scenario.proofs.node.coordinates.Given as goal

-- the coordinates so far, followed by those of the tables left, are all
abbrev pub invariant-loop-table : goal.invariant-loop-table
invariant-loop-table l =
    l.coordinates.items ++ flat_map (λ s. places_at l.seed s.at s.members) (map section_of (drop l.table-index l.tables))
    ≡ flat_map (λ s. places_at l.seed s.at s.members) (map section_of l.tables)
