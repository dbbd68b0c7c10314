use Rattle.std.proofs.Common.{◌≡◌, ◌++◌}
use Rattle.std.specs.Vec.Iter.{into_iter_items}
use Rattle.des_parts.specs.Entries.{all_entries}
use Rattle.des_parts.proofs.entries.append_lists.Given as goal

abbrev pub invariant-loop-list : goal.invariant-loop-list
invariant-loop-list g l = record {
  can_next : (goal.iterator-loop-list g).can_next l.list-iterator;
  is_finite : (goal.iterator-loop-list g).is_finite l.list-iterator;
  whole : l.all.items ++ all_entries (into_iter_items l.list-iterator) ≡ all_entries l.fn.lists.items;
}
