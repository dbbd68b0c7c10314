use Rattle.std.proofs.Common.{◌≡◌, ◌<◌, ◌++◌, length}
use Rattle.std.specs.List.{AllByRecursion}
use Rattle.des_event.specs.declared.event.Event.{Event}
use Rattle.des_parts.proofs.world.PartEvents.take_due.Given as goal

abbrev pub invariant-loop-time : goal.invariant-loop-time
invariant-loop-time g l = record {
  whole : l.self.due.items ++ l.self.later ≡ l.fn.self.later;
  early : AllByRecursion (λ (e : Event _). e.key.time < l.horizon) l.self.due.items;
}

abbrev pub decreases-loop-time : goal.decreases-loop-time
decreases-loop-time g l = length l.self.later
