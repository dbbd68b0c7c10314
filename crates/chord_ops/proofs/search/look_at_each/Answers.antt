use Rattle.std.proofs.Common.{arith, ◌∙◌, ◌<◌, ℕ, length, sym}
use Rattle.std.proofs.lemmas.Grind.{common_steps}
use Rattle.std.proofs.lemmas.List.Sums.{fold_more}
use Rattle.chord_ops.specs.Search.{visited}
use Rattle.chord_ops.proofs.search.look_at_each.Goals as goal

pub look-so_far-requires-clause-node : goal.look-so_far-requires-clause-node
look-so_far-requires-clause-node c =
    let within : c.loop-node.node-index < length c.args.nodes.now = grind (arith, common_steps) in c.requires.nodes c.loop-node.node-index 0 within

pub loop-node-preserved : goal.loop-node-preserved
loop-node-preserved c =
    let within : c.loop-node.node-index < length c.args.nodes.now = grind (arith, common_steps) in
    let look : ℕ → ℕ → ℕ = visited c.args.scenario.now c.args.way.now.me c.args.way.now.key c.args.avoid.now in (
      c.look-so_far.ensures.value ∙ rw (c.loop-node.invariant.0) (sym (fold_more look c.args.seen.closest c.args.nodes.now c.loop-node.node-index 0 within)),
      c.look-so_far.ensures.seen,
    )
