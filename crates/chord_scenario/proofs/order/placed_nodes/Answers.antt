use Rattle.std.proofs.Common.{◌≡◌, ◌∙◌, ◌∷◌, [], ◌++◌, ℕ, List, map, length, ap, sym, zero-add, arith}
use Rattle.std.specs.List.{range_with_len}
use Rattle.std.proofs.lemmas.List.{get_or-map}
use Rattle.std.proofs.lemmas.List.FromFn.{map-range_with_len_more}
use Rattle.chord_scenario.specs.declared.order.Placed.{Placed}
use Rattle.chord_scenario.specs.declared.setting.Node.{Node}
use Rattle.chord_scenario.specs.Order.{ident_in, placed}
use Rattle.chord_scenario.proofs.order.placed_nodes.Goals as goal

pub loop-node-preserved : goal.loop-node-preserved
loop-node-preserved c =
    let nodes = c.args.nodes.now in let node = c.loop-node.node in let before : List Placed = c.loop-node.order.items in
    let ident : c.raw-ident.result ≡ ident_in nodes node = c.raw-ident.ensures ∙ sym (get_or-map (λ (n : Node). n.ident) nodes node c.index-nodes-node.result 0 c.loop-node-test.true) in
    c.in_ok-push.ensures.items ∙ ap (λ (i : ℕ). before ++ record { ident = i; node = node } ∷ []) ident
    ∙ ap (λ (l : List Placed). l ++ placed nodes node ∷ []) c.loop-node.invariant ∙ sym (map-range_with_len_more (placed nodes) 0 node node (zero-add node))

pub returns : goal.returns
returns c =
    let nodes = c.args.nodes.now in
    let whole : c.loop-node.node ≡ length nodes = omega (arith, c.loop-node-test.false, c.loop-node.auto.node-end) in
    c.loop-node.invariant ∙ ap (λ (n : ℕ). map (placed nodes) (range_with_len 0 n)) whole
