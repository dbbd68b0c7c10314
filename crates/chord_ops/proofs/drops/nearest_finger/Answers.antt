use Rattle.std.proofs.Common.{◌≡◌, ◌==◌, ◌∙◌, ◌&&◌, ◌+◌, ◌<◌, ℕ, Bool, true, false, None, Option, get_or, not, subst, sym, take, arith}
use Rattle.std.proofs.lemmas.Bool.Decides.{nat_tests}
use Rattle.std.proofs.lemmas.Grind.{common_steps}
use Rattle.std.specs.List.{filter, fold}
use Rattle.std.specs.Prelude.{IfSome, if◌then◌else◌}
use Rattle.chord_scenario.specs.declared.scenario.Scenario.{Scenario}
use Rattle.chord_scenario.specs.World.{node_count}
use Rattle.chord_node.specs.declared.fingers.Run.{Run}
use Rattle.chord_node.specs.Fingers.{expanded}
use Rattle.chord_node.specs.Invariant.{AllNodes}
use Rattle.chord_node.proofs.RunLists.{run_known}
use Rattle.chord_ops.specs.Rules.{nearer}
use Rattle.chord_ops.proofs.Dropped.{nearer_again, nearer_known}
use Rattle.chord_ops.proofs.RunFolds.{kept_until}
use Rattle.chord_ops.proofs.drops.nearest_finger.Goals.{then-run-state+then-run-silent, else-run-state, else-run-state-via-then-run-state+else-run-silent, else-run-state-via-else-run-state}
use Rattle.chord_ops.proofs.drops.nearest_finger.Goals as goal

pub nearer-nearest-requires-clause-node : goal.nearer-nearest-requires-clause-node
nearer-nearest-requires-clause-node c =
    run_known (λ x. x < node_count c.args.scenario.now) c.runs-run-items.result.now c.loop-run.run-index (record { node = 0; repeats = 0 }) c.loop-run-test.true
    (subst (AllNodes c.args.scenario.now) (sym c.runs-run-items.ensures) c.requires.fingers)

pub loop-run-preserved : goal.loop-run-preserved
loop-run-preserved c =
    let sc : Scenario = c.args.scenario.now in
    let me : ℕ = c.args.state.now.me in
    let silent : ℕ = c.args.silent in
    let runs = c.runs-run-items.result.now in
    let i : ℕ = c.loop-run.run-index in
    let nearest : Option ℕ = c.loop-run.nearest in
    let run : Run = get_or runs i (record { node = 0; repeats = 0 }) in
    let p : ℕ → Bool = λ x. not (x == me) && not (x == silent) in
    let known : run.node < node_count sc = run_known (λ x. x < node_count sc) runs i (record { node = 0; repeats = 0 }) c.loop-run-test.true
    (subst (AllNodes sc) (sym c.runs-run-items.ensures) c.requires.fingers) in
    let more : (b : Bool) → p run.node ≡ b → fold (nearer sc me) None (filter p (expanded (take (i + 1) runs))) ≡ (if b then nearer sc me nearest run.node else nearest) =
    λ b test. kept_until (nearer sc me) p None nearest runs i (record { node = 0; repeats = 0 }) b c.loop-run-test.true c.loop-run.invariant.0 test
    (nearer_again sc me nearest run.node) in
    elim c.if-run-state.branch [
      | then-run-state+then-run-silent w ↦
          let test : p run.node ≡ true = grind (arith, nat_tests, common_steps) in (
            w.nearest-is ∙ w.nearer-nearest.ensures ∙ sym (more true test),
            subst (λ (o : Option ℕ). IfSome o (λ node. node < node_count sc)) (sym (w.nearest-is ∙ w.nearer-nearest.ensures))
                (nearer_known sc me nearest run.node c.loop-run.invariant.1 known),
          )
      | else-run-state w ↦
          let test : p run.node ≡ false = elim w.else-run-state.branch [
            | else-run-state-via-then-run-state+else-run-silent v ↦ grind (arith, nat_tests, common_steps)
            | else-run-state-via-else-run-state v ↦ grind (arith, nat_tests, common_steps)
          ] in (
            w.nearest-is ∙ sym (more false test),
            subst (λ (o : Option ℕ). IfSome o (λ node. node < node_count sc)) (sym w.nearest-is) c.loop-run.invariant.1,
          )
    ]
