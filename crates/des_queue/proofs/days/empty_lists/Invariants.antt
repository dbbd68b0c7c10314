use Rattle.des_queue.proofs.Placed.{AreEmpty}
use Rattle.des_queue.proofs.days.empty_lists.Given as goal

abbrev pub invariant-loop-day : goal.invariant-loop-day
invariant-loop-day l = AreEmpty l.lists.items
