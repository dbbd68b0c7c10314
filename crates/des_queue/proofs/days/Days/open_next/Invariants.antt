use Rattle.std.proofs.Common.{◌≡◌, ◌++◌, ◌-◌, vec_capacity}
use Rattle.std.specs.List.Sorted.{IsPermutation}
use Rattle.des_queue.specs.Days.{AreDays, IsOpened, entries_in}
use Rattle.des_queue.proofs.days.Days.open_next.Given as goal

abbrev pub invariant-loop-self : goal.invariant-loop-self
invariant-loop-self g l = record {
  days : AreDays l.self (vec_capacity l.due);
  events : l.self.events ≡ l.initial.self.events;
  moved : IsPermutation (entries_in l.initial.self) (l.due.items ++ entries_in l.self);
  opened : IsOpened l.self l.due.items;
}

abbrev pub decreases-loop-self : goal.decreases-loop-self
decreases-loop-self g l = l.self.latest - l.self.today
