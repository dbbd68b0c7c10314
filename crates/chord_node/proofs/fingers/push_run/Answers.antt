use Rattle.std.proofs.Common.{◌≡◌, ◌-◌, Some, length, rules}
use Rattle.std.specs.Prelude.{slice_get}
use Rattle.chord_node.proofs.RunLists.{grown}
use Rattle.chord_node.proofs.fingers.push_run.Goals as goal

pub returns-then-last-run-2 : goal.returns-then-last-run-2
returns-then-last-run-2 c =
    let runs = c.args.runs.now.items in
    let long : c.len-place.result ≡ length runs = search rules in
    let at : slice_get runs (length runs - 1) ≡ Some c.in-Some.last = search rules in
    rw (long) (grown runs c.in-Some.last c.args.run at c.if-last-run.true)
