use Rattle.std.proofs.Common.{◌≡◌, ◌++◌, map}
use Rattle.std.specs.Vec.Iter.{into_iter_items}
use Rattle.chord_window.specs.Dones.{touched_of}
use Rattle.chord_window.proofs.part_done.nodes_of.Given as goal

abbrev pub invariant-loop-state : goal.invariant-loop-state
invariant-loop-state l = record {
  can_next : goal.iterator-loop-state.can_next l.state-iterator;
  is_finite : goal.iterator-loop-state.is_finite l.state-iterator;
  whole : l.yielded ++ into_iter_items l.state-iterator ≡ l.fn.states.items;
  same : l.nodes.items ≡ map touched_of l.yielded;
}
