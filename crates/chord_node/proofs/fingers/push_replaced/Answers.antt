use Rattle.std.proofs.Common.{◌≡◌, ◌==◌, ◌∙◌, ◌++◌, ◌+◌, List, ℕ, ap, drop, get_or, map, sym}
use Rattle.std.specs.Prelude.{if◌then◌else◌}
use Rattle.chord_node.specs.declared.fingers.Run.{Run}
use Rattle.chord_node.specs.Fingers.{expanded, run_nodes}
use Rattle.chord_node.proofs.RunLists.{expanded_from, replaced_whole, step}
use Rattle.chord_node.proofs.fingers.push_replaced.Goals as goal

pub loop-run-preserved : goal.loop-run-preserved
loop-run-preserved c =
    let others = c.args.others.now in
    let i = c.loop-run.run-index in
    let run : Run = get_or others i (record { node = 0; repeats = 0 }) in
    let rest : List ℕ = expanded (drop (i + 1) others) in
    let done : List ℕ = expanded c.loop-run.runs.items in
    let from : run_nodes run ++ rest ≡ expanded (drop i others) = sym (expanded_from others i (record { node = 0; repeats = 0 }) c.loop-run-test.true) in
    let f : ℕ → ℕ = λ n. if n == c.args.old then c.args.new else n in
    step done (expanded c.push_run.new.runs.items) (run_nodes (record { node = c.put_for-node.result; repeats = run.repeats })) (map f rest)
    (map f (expanded (drop i others))) _ c.in_ok-push_run.ensures
    (replaced_whole f run c.put_for-node.result rest c.put_for-node.ensures ∙ ap (map f) from) c.loop-run.invariant
