use Rattle.std.proofs.Common.{◌≡◌, ◌∙◌, ◌+◌, ◌<◌, ℕ, get_or, sym, take}
use Rattle.std.specs.List.{fold}
use Rattle.chord_node.specs.declared.fingers.Run.{Run}
use Rattle.chord_node.specs.Fingers.{expanded}
use Rattle.chord_node.proofs.RunLists.{run_known}
use Rattle.chord_scenario.specs.World.{node_count}
use Rattle.chord_ops.specs.Search.{visited}
use Rattle.chord_ops.proofs.RunFolds.{fold_run, fold_until}
use Rattle.chord_ops.proofs.Visited.{visited_again}
use Rattle.chord_ops.proofs.search.look_at_runs.Goals as goal

pub look-so_far-requires-clause-node : goal.look-so_far-requires-clause-node
look-so_far-requires-clause-node c =
    run_known (λ x. x < node_count c.args.scenario.now) c.args.runs.now c.loop-run.run-index (record { node = 0; repeats = 0 }) c.loop-run-test.true c.requires.nodes

pub loop-run-preserved : goal.loop-run-preserved
loop-run-preserved c =
    let sc = c.args.scenario.now in
    let way = c.args.way.now in
    let runs = c.args.runs.now in
    let i : ℕ = c.loop-run.run-index in
    let closest : ℕ = c.loop-run.so_far.closest in
    let run : Run = get_or runs i (record { node = 0; repeats = 0 }) in
    let look : ℕ → ℕ → ℕ = visited sc way.me way.key c.args.avoid.now in
    let more : fold look c.args.seen.closest (expanded (take (i + 1) runs)) ≡ look closest run.node =
    fold_until look c.args.seen.closest closest runs i (record { node = 0; repeats = 0 }) c.loop-run-test.true c.loop-run.invariant.0
    ∙ fold_run look closest run (visited_again sc way.me way.key c.args.avoid.now closest run.node) in
    (c.look-so_far.ensures.value ∙ sym more, c.look-so_far.ensures.seen)
