use Rattle.std.proofs.Common.{◌≡◌, ◌++◌}
use Rattle.std.specs.Vec.Iter.{into_iter_items}
use Rattle.des_parts.specs.Slots.{in_slots}
use Rattle.des_parts.proofs.part_order.take_out.Given as goal

abbrev pub invariant-loop-slot : goal.invariant-loop-slot
invariant-loop-slot g l = record {
  can_next : (goal.iterator-loop-slot g).can_next l.slot-iterator;
  is_finite : (goal.iterator-loop-slot g).is_finite l.slot-iterator;
  taken : l.list.items ++ in_slots (into_iter_items l.slot-iterator) ≡ in_slots l.fn.slots.items;
}
