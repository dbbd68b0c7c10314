use Rattle.std.proofs.Common.{◌≡◌, ◌++◌}
use Rattle.std.specs.List.{flat_map}
use Rattle.std.specs.Vec.Iter.{into_iter_items}
use Rattle.des_parts.specs.Worlds.{events_of}
use Rattle.des_redivide.proofs.events.all_events.Given as goal

abbrev pub invariant-loop-part : goal.invariant-loop-part
invariant-loop-part g l = record {
  can_next : (goal.iterator-loop-part g).can_next l.part-iterator;
  is_finite : (goal.iterator-loop-part g).is_finite l.part-iterator;
  whole : l.list.items ++ flat_map events_of (into_iter_items l.part-iterator) ≡ flat_map events_of l.fn.parts.items;
}
