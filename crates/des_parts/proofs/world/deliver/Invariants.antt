use Rattle.std.proofs.Common.{◌≡◌, ◌++◌}
use Rattle.std.specs.Vec.Iter.{into_iter_items}
use Rattle.des_parts.specs.Delivery.{HasDelivered}
use Rattle.des_parts.proofs.world.deliver.Given as goal

abbrev pub invariant-loop-event : goal.invariant-loop-event
invariant-loop-event g l = record {
  can_next : (goal.iterator-loop-event g).can_next l.event-iterator;
  is_finite : (goal.iterator-loop-event g).is_finite l.event-iterator;
  whole : l.yielded ++ into_iter_items l.event-iterator ≡ l.fn.mail.items;
  delivered : HasDelivered l.division l.initial.parts.items l.parts.items l.yielded (into_iter_items l.event-iterator);
}
