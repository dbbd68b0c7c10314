use Rattle.std.proofs.Common.{◌≡◌, ◌<◌, ◌⊎◌, ℕ, None, length, slice_index_or}
use Rattle.std.specs.Vec.Iter.{into_iter_items}
use Rattle.des_parts.specs.Ordering.{AreOf, IsFilled, IsToCome}
use Rattle.des_parts.proofs.part_order.place.Given as goal

abbrev pub invariant-loop-done : goal.invariant-loop-done
invariant-loop-done g l = record {
  can_next : (goal.iterator-loop-done g).can_next l.done-iterator;
  is_finite : (goal.iterator-loop-done g).is_finite l.done-iterator;
  long : length l.slots.items ≡ l.parts;
  inside : AreOf l.fn.dones.items l.parts (into_iter_items l.done-iterator);
  each : (k : ℕ) → k < l.parts → IsFilled l.fn.dones.items k (slice_index_or l.slots.items k None) ⊎ IsToCome k (into_iter_items l.done-iterator);
}
