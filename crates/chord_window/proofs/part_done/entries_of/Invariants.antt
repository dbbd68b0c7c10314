use Rattle.std.proofs.Common.{◌≡◌, ◌++◌, map}
use Rattle.std.specs.Vec.Iter.{into_iter_items}
use Rattle.chord_window.specs.Dones.{entry_of}
use Rattle.chord_window.proofs.part_done.entries_of.Given as goal

abbrev pub invariant-loop-block : goal.invariant-loop-block
invariant-loop-block l = record {
  can_next : goal.iterator-loop-block.can_next l.block-iterator;
  is_finite : goal.iterator-loop-block.is_finite l.block-iterator;
  whole : l.yielded ++ into_iter_items l.block-iterator ≡ l.fn.blocks.items;
  same : l.entries.items ≡ map entry_of l.yielded;
}
