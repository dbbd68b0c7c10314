use Rattle.std.proofs.Common.{◌≡◌, ◌++◌}
use Rattle.std.specs.Vec.Iter.{into_iter_items}
use Rattle.chord_window.specs.Ordering.{AreEntriesOf}
use Rattle.chord_window.proofs.exchanging.lists_of_blocks.Given as goal

abbrev pub invariant-loop-entries : goal.invariant-loop-entries
invariant-loop-entries l = record {
  can_next : goal.iterator-loop-entries.can_next l.entries-iterator;
  is_finite : goal.iterator-loop-entries.is_finite l.entries-iterator;
  whole : l.yielded ++ into_iter_items l.entries-iterator ≡ l.fn.lists.items;
  are : AreEntriesOf l.blocks.items l.yielded;
}
