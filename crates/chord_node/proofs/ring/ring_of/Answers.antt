use Rattle.std.proofs.Common.{ℕ, ◌<◌, List, sym, subst}
use Rattle.std.specs.List.{All}
use Rattle.std.specs.List.Sorted.{IsPermutation}
use Rattle.des_event.proofs.Members.{All_from}
use Rattle.chord_scenario.specs.Start.{initial_nodes}
use Rattle.chord_scenario.specs.World.{node_count}
use Rattle.chord_node.specs.declared.ring.Place.{Place}
use Rattle.chord_node.specs.Places.{placed}
use Rattle.chord_node.proofs.Rings.{sorted_places, initial-known}
use Rattle.chord_node.proofs.ring.ring_of.Goals as goal

pub places_of-requires : goal.places_of-requires
places_of-requires c =
    subst (λ (xs : List ℕ). All (λ x. x < node_count c.args.scenario.now) xs) (sym c.requires)
    (All_from (λ x. x < node_count c.args.scenario.now) (initial_nodes c.args.scenario.now) (initial-known c.args.scenario.now))

pub returns : goal.returns
returns c =
    let from : List Place → Type 0 = λ places. IsPermutation places c.sort_by_ident.new.places.items in
    sorted_places c.args.scenario.now c.sort_by_ident.new.places.items c.recall_range.ensures
    (subst (λ xs. from (placed c.args.scenario.now xs)) c.requires (subst from c.in_ok-places.ensures c.in_ok-sort_by_ident.ensures.moved))
    c.in_ok-sort_by_ident.ensures.sorted
