use Rattle.std.proofs.Common.{◌∙◌, ◌+◌, List, ℕ, ap, drop, get_or, sym, arith}
use Rattle.std.specs.Prelude.{slice_get}
use Rattle.chord_node.specs.declared.fingers.Run.{Run}
use Rattle.chord_node.specs.Fingers.{expanded}
use Rattle.chord_node.proofs.RunLists.{expanded_from, found_beyond, found_inside}
use Rattle.chord_node.proofs.fingers.node_at.Goals as goal

pub returns-then-left-run : goal.returns-then-left-run
returns-then-left-run c =
    let runs = c.args.runs.now in
    let i = c.loop-run.run-index in
    let run : Run = get_or runs i (record { node = 0; repeats = 0 }) in
    sym (found_inside run c.loop-run.left (expanded (drop (i + 1) runs)) (omega (arith, c.if-left-run.true)))
    ∙ ap (λ (xs : List ℕ). slice_get xs c.loop-run.left) (sym (expanded_from runs i (record { node = 0; repeats = 0 }) c.loop-run-test.true))
    ∙ c.loop-run.invariant

pub loop-run-preserved : goal.loop-run-preserved
loop-run-preserved c =
    let runs = c.args.runs.now in
    let i = c.loop-run.run-index in
    let run : Run = get_or runs i (record { node = 0; repeats = 0 }) in
    found_beyond run c.loop-run.left (expanded (drop (i + 1) runs)) (omega (arith, c.if-left-run.false))
    ∙ ap (λ (xs : List ℕ). slice_get xs c.loop-run.left) (sym (expanded_from runs i (record { node = 0; repeats = 0 }) c.loop-run-test.true))
    ∙ c.loop-run.invariant
