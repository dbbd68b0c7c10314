use Rattle.std.proofs.Common.{◌≡◌, ◌++◌, map}
use Rattle.std.specs.Vec.Iter.{into_iter_items}
use Rattle.chord_window.specs.Dones.{touched_of}
use Rattle.chord_window.proofs.part_done.states_of.Given as goal

abbrev pub invariant-loop-touched : goal.invariant-loop-touched
invariant-loop-touched l = record {
  can_next : goal.iterator-loop-touched.can_next l.touched-iterator;
  is_finite : goal.iterator-loop-touched.is_finite l.touched-iterator;
  whole : l.yielded ++ into_iter_items l.touched-iterator ≡ l.fn.nodes.items;
  same : l.yielded ≡ map touched_of l.states.items;
}
