use Rattle.std.proofs.Common.{◌≡◌, ◌∙◌, ◌++◌, ◌+◌, ◌-◌, List, ℕ, ap, drop, get_or, sym, arith}
use Rattle.chord_node.specs.declared.fingers.Run.{Run}
use Rattle.chord_node.specs.Fingers.{expanded, run_nodes}
use Rattle.chord_node.proofs.RunLists.{dropped_part, dropped_whole, expanded_from, step}
use Rattle.chord_node.proofs.fingers.push_after.Goals.{then-left-run, else-left-run+in_ok-push_run}
use Rattle.chord_node.proofs.fingers.push_after.Goals as goal

pub loop-run-preserved : goal.loop-run-preserved
loop-run-preserved c =
    let others = c.args.others.now in
    let i = c.loop-run.run-index in
    let run : Run = get_or others i (record { node = 0; repeats = 0 }) in
    let rest : List ℕ = expanded (drop (i + 1) others) in
    let done : List ℕ = expanded c.loop-run.runs.items in
    let from : run_nodes run ++ rest ≡ expanded (drop i others) = sym (expanded_from others i (record { node = 0; repeats = 0 }) c.loop-run-test.true) in
    let left = c.loop-run.left in
    elim c.if-left-run.branch [
      | then-left-run w ↦
          rw (w.runs-is, w.left-is)
          (ap (λ (xs : List ℕ). done ++ xs) (dropped_whole run left rest (omega (arith, w.if-left-run.true)) ∙ ap (drop left) from) ∙ c.loop-run.invariant)
      | else-left-run+in_ok-push_run w ↦
          rw (w.runs-is, w.left-is)
          (step done (expanded w.push_run.new.runs.items) (run_nodes (record { node = run.node; repeats = run.repeats - left })) rest
          (drop left (expanded (drop i others))) _ w.in_ok-push_run.ensures
          (dropped_part run left rest (omega (arith, w.if-left-run.false)) ∙ ap (drop left) from) c.loop-run.invariant)
    ]
