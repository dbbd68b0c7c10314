use Rattle.std.proofs.Common.{◌∙◌, sym}
use Rattle.chord_scenario.specs.Sections.{section_of}
use Rattle.chord_scenario.specs.Settings.{places_at, coordinates_of}
use Rattle.chord_scenario.proofs.Built.{each-more, each-all}
use Rattle.chord_scenario.proofs.node.coordinates.Goals as goal

pub loop-table-preserved : goal.loop-table-preserved
loop-table-preserved c =
    each-more section_of (λ s. places_at c.args.seed s.at s.members) c.args.tables.now c.loop-table.table-index c.loop-table.coordinates.items
    c.table-item.result c.push_places.new.coordinates.items c.loop-table.invariant c.loop-table-test.true c.table-item.is
    c.in_ok-push_places.ensures

pub returns : goal.returns
unfolding coordinates_of
returns c =
    rw (sym c.has_placed_node.ensures ∙ c.if-not-has_placed_node.false)
    (each-all section_of (λ s. places_at c.args.seed s.at s.members) c.args.tables.now c.loop-table.table-index c.loop-table.coordinates.items
    c.loop-table.invariant c.loop-table-test.false)
