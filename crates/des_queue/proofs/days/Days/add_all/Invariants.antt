use Rattle.std.proofs.Common.{◌≡◌, ◌++◌, drop, map}
use Rattle.des_queue.specs.Shelf.{get}
use Rattle.des_queue.specs.Days.{entries_in}
use Rattle.des_queue.specs.Places.{entry_at}
use Rattle.des_queue.proofs.Placed.{joined}
use Rattle.des_queue.proofs.days.Days.add_all.Given as goal

abbrev pub invariant-loop-list : goal.invariant-loop-list
invariant-loop-list g l =
    l.entries.items ++ map (entry_at (get l.self.events)) (joined (drop l.list-index l.self.lists.items)) ≡ l.initial.entries.items ++ entries_in l.self
