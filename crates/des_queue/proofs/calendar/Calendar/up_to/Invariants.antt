use Rattle.std.proofs.Common.{◌≡◌, ◌++◌, drop}
use Rattle.des_queue.proofs.calendar.Calendar.up_to.Given as goal

abbrev pub invariant-loop-waiting : goal.invariant-loop-waiting
invariant-loop-waiting g l = l.entries.items ++ drop l.waiting-index l.self-inside.due.items ≡ l.self-inside.due.items
