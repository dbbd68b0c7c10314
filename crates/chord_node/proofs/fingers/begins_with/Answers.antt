use Rattle.std.proofs.Common.{◌≡◌, ◌≤◌, Some, arith, rules}
use Rattle.std.proofs.lemmas.Bool.Decides.{nat_tests}
use Rattle.std.specs.Prelude.{slice_get}
use Rattle.chord_node.proofs.RunLists.{begun_runs}
use Rattle.chord_node.proofs.fingers.begins_with.Goals as goal

pub returns-then-run-node : goal.returns-then-run-node
returns-then-run-node c within =
    let at : slice_get c.args.runs.now 0 ≡ Some c.in-Some.run'.now = search rules in
    let near : c.args.count ≤ c.in-Some.run'.now.repeats = grind (arith, nat_tests) in
    begun_runs c.args.runs.now c.args.count c.args.node c.in-Some.run'.now at c.if-run-node.true near
