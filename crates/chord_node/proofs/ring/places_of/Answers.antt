use Rattle.std.proofs.Common.{◌≡◌, ◌∙◌, ◌++◌, ◌∷◌, ◌+◌, [], ap, get_or, sym, take}
use Rattle.std.proofs.lemmas.List.{map-append, take_more}
use Rattle.chord_scenario.specs.World.{ident_of}
use Rattle.chord_node.specs.Places.{placed}
use Rattle.chord_node.proofs.ring.places_of.Goals as goal

pub ident-requires : goal.ident-requires
ident-requires c = c.requires c.loop-node.node-index 0 c.loop-node-test.true

pub loop-node-preserved : goal.loop-node-preserved
loop-node-preserved c =
    let sc = c.args.scenario.now in let nodes = c.args.nodes.now in let i = c.loop-node.node-index in let node = get_or nodes i 0 in
    let ident : c.raw-ident.result ≡ ident_of sc node = c.raw-ident.ensures ∙ c.ident.ensures.value in
    let next : placed sc (take (i + 1) nodes) ≡ placed sc (take i nodes) ++ placed sc (node ∷ []) =
    ap (placed sc) (take_more nodes i 0 c.loop-node-test.true)
    ∙ map-append (λ n. record { ident = ident_of sc n; node = n }) (take i nodes) (node ∷ []) in
    c.in_ok-push.ensures.items ∙ (λ j. c.loop-node.invariant j ++ record { ident = ident j; node = node } ∷ []) ∙ sym next
