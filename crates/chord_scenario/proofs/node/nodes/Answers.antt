use Rattle.chord_scenario.specs.Sections.{section_of}
use Rattle.chord_scenario.specs.Settings.{nodes_at, nodes_of}
use Rattle.chord_scenario.proofs.Built.{each-more, each-all}
use Rattle.chord_scenario.proofs.node.nodes.Goals as goal

pub loop-table-preserved : goal.loop-table-preserved
unfolding nodes_of
loop-table-preserved c = record {
  value = each-more section_of (λ s. nodes_at c.args.circle s.at s.members) c.args.tables.now c.loop-table.table-index c.loop-table.nodes.items
      c.table-item.result c.push_nodes.new.nodes.items c.loop-table.invariant.value c.loop-table-test.true c.table-item.is
      c.in_ok-push_nodes.ensures.value;
  on_circle = c.in_ok-push_nodes.ensures.on_circle c.loop-table.invariant.on_circle;
}

pub returns-clause-value : goal.returns-clause-value
unfolding nodes_of
returns-clause-value c =
    each-all section_of (λ s. nodes_at c.args.circle s.at s.members) c.args.tables.now c.loop-table.table-index c.loop-table.nodes.items
    c.loop-table.invariant.value c.loop-table-test.false
