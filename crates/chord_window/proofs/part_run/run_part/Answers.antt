use Rattle.chord_window.proofs.Dones.{entries_are_own, nodes_are_own}
use Rattle.chord_window.proofs.part_run.run_part.Goals as goal

pub of_kernel-requires-clause-nodes : goal.of_kernel-requires-clause-nodes
of_kernel-requires-clause-nodes c = nodes_are_own c.args.window.now.scenario.now c.recall_range.ensures c.args.window.now.world.now.kernel
    c.args.window.now.horizon c.args.part c.in_ok-done.done c.in_ok-done.ensures.done

pub of_kernel-requires-clause-entries : goal.of_kernel-requires-clause-entries
of_kernel-requires-clause-entries c = entries_are_own c.args.window.now.scenario.now c.recall_range.ensures c.args.window.now.world.now.kernel
    c.args.window.now.horizon c.args.part c.in_ok-done.done c.in_ok-done.ensures.done
