use Rattle.std.proofs.Common.{◌≡◌, ◌∙◌, ◌++◌, ◌+◌, ◌-◌, List, ℕ, ap, drop, get_or, sym, take, arith}
use Rattle.std.proofs.lemmas.List.{append-nil}
use Rattle.chord_node.specs.declared.fingers.Run.{Run}
use Rattle.chord_node.specs.Fingers.{expanded, run_nodes}
use Rattle.chord_node.proofs.RunLists.{expanded_from, step, taken_part, taken_whole}
use Rattle.chord_node.proofs.fingers.push_first.Goals.{then-left-run+in_ok-push_run, else-left-run+then-left-gt0+in_ok-push_run-2, else-left-run+else-left-gt0}
use Rattle.chord_node.proofs.fingers.push_first.Goals as goal

pub loop-run-preserved : goal.loop-run-preserved
loop-run-preserved c =
    let others = c.args.others.now in
    let i = c.loop-run.run-index in
    let run : Run = get_or others i (record { node = 0; repeats = 0 }) in
    let rest : List ℕ = expanded (drop (i + 1) others) in
    let done : List ℕ = expanded c.loop-run.runs.items in
    let from : run_nodes run ++ rest ≡ expanded (drop i others) = sym (expanded_from others i (record { node = 0; repeats = 0 }) c.loop-run-test.true) in
    let left = c.loop-run.left in
    elim c.if-left-run.branch [
      | then-left-run+in_ok-push_run w ↦
          rw (w.runs-is, w.left-is)
          (step done (expanded w.push_run.new.runs.items) (run_nodes run) (take (left - (run.repeats + 1)) rest) (take left (expanded (drop i others))) _
          w.in_ok-push_run.ensures (taken_whole run left rest (omega (arith, w.if-left-run.true)) ∙ ap (take left) from) c.loop-run.invariant)
      | else-left-run+then-left-gt0+in_ok-push_run-2 w ↦
          let part : List ℕ = run_nodes (record { node = run.node; repeats = left - 1 }) in
          rw (w.runs-is, w.left-is)
          (step done (expanded w.push_run-then-left-gt0.new.runs.items) part (take 0 rest) (take left (expanded (drop i others))) _ w.in_ok-push_run-2.ensures
          (append-nil part ∙ taken_part run left rest (omega (arith, w.if-left-gt0.true)) (omega (arith, w.if-left-run.false)) ∙ ap (take left) from)
          c.loop-run.invariant)
      | else-left-run+else-left-gt0 w ↦
          let none : left ≡ 0 = omega (arith, w.if-left-gt0.false) in
          rw (w.runs-is, w.left-is)
          (ap (λ (n : ℕ). done ++ take n rest) none ∙ ap (λ (n : ℕ). done ++ take n (expanded (drop i others))) (sym none) ∙ c.loop-run.invariant)
    ]
