use Rattle.std.proofs.Common.{◌≡◌, ◌<◌, ◌^◌, ◌++◌, drop, map}
use Rattle.std.specs.List.{All}
use Rattle.chord_scenario.specs.Sections.{section_of}
use Rattle.chord_scenario.specs.Settings.{nodes_of}
use Rattle.chord_scenario.proofs.node.nodes.Given as goal

-- the nodes so far, followed by those of the tables left, are all
abbrev pub invariant-loop-table : goal.invariant-loop-table
invariant-loop-table l = record {
  value : l.nodes.items ++ nodes_of l.circle (map section_of (drop l.table-index l.tables)) ≡ nodes_of l.circle (map section_of l.tables);
  on_circle : All (λ n. n.ident < 2 ^ l.circle) l.nodes.items;
}
