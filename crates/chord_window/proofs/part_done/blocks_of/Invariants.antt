use Rattle.std.proofs.Common.{◌≡◌, ◌++◌, map}
use Rattle.std.specs.Vec.Iter.{into_iter_items}
use Rattle.chord_window.specs.Dones.{entry_of}
use Rattle.chord_window.proofs.part_done.blocks_of.Given as goal

abbrev pub invariant-loop-entry : goal.invariant-loop-entry
invariant-loop-entry l = record {
  can_next : goal.iterator-loop-entry.can_next l.entry-iterator;
  is_finite : goal.iterator-loop-entry.is_finite l.entry-iterator;
  whole : l.yielded ++ into_iter_items l.entry-iterator ≡ l.fn.entries.items;
  same : l.yielded ≡ map entry_of l.blocks.items;
}
