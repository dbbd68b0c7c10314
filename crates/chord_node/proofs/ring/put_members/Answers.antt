use Rattle.std.proofs.Common.{◌≡◌, ◌∙◌, ◌<◌, ℕ, List, ap, map, length, take, sym, get_or, arith, slice_set, take_all}
use Rattle.std.specs.Prelude.{◌/◌}
use Rattle.std.specs.List.{range_with_len}
use Rattle.std.proofs.lemmas.List.FromFn.{length-map-range_with_len}
use Rattle.chord_scenario.specs.World.{node_count}
use Rattle.chord_node.specs.declared.ring.Place.{Place}
use Rattle.chord_node.specs.declared.state.NodeState.{NodeState}
use Rattle.chord_node.specs.Places.{placed, ring}
use Rattle.chord_node.proofs.Joined.{joined, joined-all, joined-more, node-in_ring, nodes-more, ring-member}
use Rattle.chord_node.proofs.Rings.{placed-nodes}
use Rattle.chord_node.proofs.Rounds.{first_round}
use Rattle.chord_node.proofs.ring.put_members.Goals as goal

pub first_member-requires-clause-node : goal.first_member-requires-clause-node
first_member-requires-clause-node c =
    let sc = c.args.scenario.now in
    let whole = ap (λ (xs : List Place). take (length xs / 2) xs) c.requires.rounds ∙ first_round sc in
    (ring-member sc _ (node-in_ring sc _ c.loop-place.place-index _ whole c.loop-place-test.true)).0

pub first_member-requires-clause-member : goal.first_member-requires-clause-member
first_member-requires-clause-member c =
    let sc = c.args.scenario.now in
    let whole = ap (λ (xs : List Place). take (length xs / 2) xs) c.requires.rounds ∙ first_round sc in
    (ring-member sc _ (node-in_ring sc _ c.loop-place.place-index _ whole c.loop-place-test.true)).1

pub index_mut-requires : goal.index_mut-requires
index_mut-requires c =
    let sc = c.args.scenario.now in
    let k = c.loop-place.place-index in
    let places = take (length c.args.rounds.now / 2) c.args.rounds.now in
    let whole : places ≡ placed sc (ring sc) = ap (λ (xs : List Place). take (length xs / 2) xs) c.requires.rounds ∙ first_round sc in
    let node = (get_or places k (record { ident = 0; node = 0 })).node in
    let known : node < node_count sc = (ring-member sc node (node-in_ring sc places k _ whole c.loop-place-test.true)).0 in
    let so_far = map (λ (p : Place). p.node) (take k places) in
    let long : length c.loop-place.states.items ≡ node_count sc = ap (λ (xs : List NodeState). length xs) c.loop-place.invariant
    ∙ length-map-range_with_len (joined sc so_far) 0 (node_count sc) in
    omega (arith, known, long)

pub loop-place-preserved : goal.loop-place-preserved
loop-place-preserved c =
    let sc = c.args.scenario.now in
    let k = c.loop-place.place-index in
    let places = take (length c.args.rounds.now / 2) c.args.rounds.now in
    let whole : places ≡ placed sc (ring sc) = ap (λ (xs : List Place). take (length xs / 2) xs) c.requires.rounds ∙ first_round sc in
    let node = (get_or places k (record { ident = 0; node = 0 })).node in
    let known = (ring-member sc node (node-in_ring sc places k _ whole c.loop-place-test.true)).0 in
    let so_far = map (λ (p : Place). p.node) (take k places) in
    (λ i. slice_set (c.loop-place.invariant i) node (c.in_ok-states.ensures i))
    ∙ joined-more sc so_far node (node_count sc) known
    ∙ ap (λ xs. map (joined sc xs) (range_with_len 0 (node_count sc))) (sym (nodes-more places k _ c.loop-place-test.true))

pub returns : goal.returns
returns c =
    let sc = c.args.scenario.now in
    let places = take (length c.args.rounds.now / 2) c.args.rounds.now in
    let whole : places ≡ placed sc (ring sc) = ap (λ (xs : List Place). take (length xs / 2) xs) c.requires.rounds ∙ first_round sc in
    let all : take c.loop-place.place-index places ≡ places = take_all c.loop-place.place-index places (omega (arith, c.loop-place-test.false)) in
    c.loop-place.invariant
    ∙ ap (λ (xs : List Place). map (joined sc (map (λ (p : Place). p.node) xs)) (range_with_len 0 (node_count sc))) (all ∙ whole)
    ∙ ap (λ (xs : List ℕ). map (joined sc xs) (range_with_len 0 (node_count sc))) (placed-nodes sc (ring sc))
    ∙ joined-all sc
