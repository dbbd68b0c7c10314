use Rattle.std.proofs.Common.{ℕ, zero, suc, ◌<◌, get_or, replicate, subst, sym, take, arith}
use Rattle.std.proofs.lemmas.List.Elements.{All-append, All-cons, All-nil}
use Rattle.std.specs.List.{All}
use Rattle.chord_scenario.specs.World.{node_count}
use Rattle.chord_node.specs.declared.fingers.Run.{Run}
use Rattle.chord_node.specs.Fingers.{expanded, run_nodes}
use Rattle.chord_node.proofs.RunLists.{expanded_until}
use Rattle.chord_examples.proofs.tests.searches.are_fingers_known.Goals as goal

-- what holds for a node holds for its repeats
all_repeats : (P : ℕ → Type 0) (x k : ℕ) → P x → All P (replicate k x)
all_repeats P x zero known = All-nil P
all_repeats P x (suc k) known = All-cons P x (replicate k x) known (all_repeats P x k known)

pub loop-run-preserved : goal.loop-run-preserved
loop-run-preserved c =
    let runs = c.args.runs.now in
    let i : ℕ = c.loop-run.run-index in
    let run : Run = get_or runs i (record { node = 0; repeats = 0 }) in
    let P : ℕ → Type 0 = λ x. x < node_count c.args.scenario.now in
    let known : run.node < node_count c.args.scenario.now = omega (arith, c.if-run-nodes.false, c.nodes.ensures) in
    subst (All P) (sym (expanded_until runs i (record { node = 0; repeats = 0 }) c.loop-run-test.true))
    (All-append P (expanded (take i runs)) (run_nodes run) c.loop-run.invariant (all_repeats P run.node (suc run.repeats) known))
