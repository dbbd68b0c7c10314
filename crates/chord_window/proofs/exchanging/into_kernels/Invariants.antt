use Rattle.std.proofs.Common.{◌≡◌, ◌++◌}
use Rattle.std.specs.Vec.Iter.{into_iter_items}
use Rattle.chord_window.specs.Dones.{AreSame}
use Rattle.chord_window.proofs.exchanging.into_kernels.Given as goal

abbrev pub invariant-loop-done : goal.invariant-loop-done
invariant-loop-done l = record {
  can_next : goal.iterator-loop-done.can_next l.done-iterator;
  is_finite : goal.iterator-loop-done.is_finite l.done-iterator;
  whole : l.yielded ++ into_iter_items l.done-iterator ≡ l.fn.dones.items;
  same : AreSame l.yielded l.kernels.items;
}
