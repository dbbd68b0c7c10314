use Rattle.std.proofs.Common.{◌≡◌, ◌∙◌, Option, ap, false, get_or, option_map}
use Rattle.std.specs.Prelude.{unwrap_or}
use Rattle.std.proofs.lemmas.Option.{slice_get-get_or}
use Rattle.chord_scenario.specs.declared.setting.Node.{Node}
use Rattle.chord_scenario.specs.Settings.{is_bootstrap}
use Rattle.chord_scenario.proofs.Ranges.{filter-range_taken, filter-range_passed}
use Rattle.chord_scenario.proofs.node.bootstraps.Goals as goal
use Rattle.chord_scenario.proofs.node.bootstraps.Goals.{then-nodes-node+in_ok-push, else-nodes-node}

pub loop-node-preserved : goal.loop-node-preserved
loop-node-preserved c =
    let nodes = c.args.nodes.now in
    let one = c.index-nodes-node.result in
    let named : is_bootstrap nodes c.loop-node.node ≡ (get_or nodes c.loop-node.node one).bootstrap =
    ap (λ (o : Option Node). unwrap_or (option_map (λ n. n.bootstrap) o) false) (slice_get-get_or nodes c.loop-node.node one c.loop-node-test.true) in
    elim c.if-nodes-node.branch [
      | then-nodes-node+in_ok-push w ↦ (λ i. (w.bootstraps-is i).items) ∙ w.in_ok-push.ensures.items
          ∙ filter-range_taken (is_bootstrap nodes) c.loop-node.node c.loop-node.bootstraps.items (named ∙ w.if-nodes-node.true) c.loop-node.invariant
      | else-nodes-node w ↦ (λ i. (w.bootstraps-is i).items) ∙ filter-range_passed (is_bootstrap nodes) c.loop-node.node c.loop-node.bootstraps.items
          (named ∙ w.if-nodes-node.false) c.loop-node.invariant
    ]
