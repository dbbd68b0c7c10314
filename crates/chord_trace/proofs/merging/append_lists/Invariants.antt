use Rattle.std.proofs.Common.{◌≡◌, ◌++◌}
use Rattle.std.specs.Vec.Iter.{into_iter_items}
use Rattle.chord_trace.specs.Merging.{all_blocks}
use Rattle.chord_trace.proofs.merging.append_lists.Given as goal

abbrev pub invariant-loop-list : goal.invariant-loop-list
invariant-loop-list l = record {
  can_next : goal.iterator-loop-list.can_next l.list-iterator;
  is_finite : goal.iterator-loop-list.is_finite l.list-iterator;
  whole : l.all.items ++ all_blocks (into_iter_items l.list-iterator) ≡ all_blocks l.fn.lists.items;
}
