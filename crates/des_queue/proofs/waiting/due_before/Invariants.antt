use Rattle.std.proofs.Common.{◌≡◌, ◌++◌, drop}
use Rattle.std.specs.List.{filter}
use Rattle.des_queue.specs.Places.{is_due}
use Rattle.des_queue.proofs.waiting.due_before.Given as goal

abbrev pub invariant-loop-waiting : goal.invariant-loop-waiting
invariant-loop-waiting l = l.due.items ++ filter (is_due l.horizon) (drop l.waiting-index l.entries) ≡ filter (is_due l.horizon) l.entries
