use Rattle.std.proofs.Common.{◌≡◌, ◌∙◌, ℕ, ap, sym, filter, arith}
use Rattle.std.specs.List.{range_with_len}
use Rattle.chord_scenario.specs.Start.{initial_nodes}
use Rattle.chord_scenario.specs.World.{is_initial, node_count}
use Rattle.chord_scenario.proofs.Ranges.{filter-range_taken, filter-range_passed}
use Rattle.chord_node.proofs.ring.members_at_start.Goals as goal
use Rattle.chord_node.proofs.ring.members_at_start.Goals.{then-initial+in_ok-push, else-initial}

pub loop-node-preserved : goal.loop-node-preserved
loop-node-preserved c =
    let initial = is_initial c.args.scenario.now in
    elim c.if-initial.branch [
      | then-initial+in_ok-push w ↦ (λ i. (w.nodes-is i).items) ∙ w.in_ok-push.ensures.items
          ∙ filter-range_taken initial c.loop-node.node c.loop-node.nodes.items (sym c.initial.ensures ∙ w.if-initial.true) c.loop-node.invariant
      | else-initial w ↦ (λ i. (w.nodes-is i).items) ∙ filter-range_passed initial c.loop-node.node c.loop-node.nodes.items
          (sym c.initial.ensures ∙ w.if-initial.false) c.loop-node.invariant
    ]

pub returns : goal.returns
unfolding initial_nodes
returns c =
    let whole : c.loop-node.node ≡ node_count c.args.scenario.now = omega
    (arith, c.nodes-node-end.ensures, c.loop-node-test.false, c.loop-node.auto.node-end) in
    c.loop-node.invariant ∙ ap (λ (n : ℕ). filter (is_initial c.args.scenario.now) (range_with_len 0 n)) whole
