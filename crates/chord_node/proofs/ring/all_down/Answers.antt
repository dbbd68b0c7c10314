use Rattle.std.proofs.Common.{◌≡◌, ◌∙◌, ℕ, ap, map, arith}
use Rattle.std.specs.List.{range_with_len}
use Rattle.chord_node.specs.Ring.{never_up}
use Rattle.chord_node.proofs.Rings.{states-more}
use Rattle.chord_node.proofs.ring.all_down.Goals as goal

pub loop-node-preserved : goal.loop-node-preserved
loop-node-preserved c = c.in_ok-push.ensures.items ∙ states-more never_up c.loop-node.node c.loop-node.states.items _ c.never_up.ensures c.loop-node.invariant

pub returns : goal.returns
returns c =
    let whole : c.loop-node.node ≡ c.args.nodes = omega (arith, c.loop-node-test.false, c.loop-node.auto.node-end) in
    c.loop-node.invariant ∙ ap (λ (n : ℕ). map never_up (range_with_len 0 n)) whole
