use Rattle.std.proofs.Common.{◌≡◌, ◌++◌, map}
use Rattle.std.specs.Vec.Iter.{into_iter_items}
use Rattle.des_protocol.specs.Numbered.{uncounted}
use Rattle.des_protocol.proofs.numbered.uncounted.Given as goal

abbrev pub invariant-loop-state : goal.invariant-loop-state
invariant-loop-state g l = record {
  can_next : (goal.iterator-loop-state g).can_next l.state-iterator;
  is_finite : (goal.iterator-loop-state g).is_finite l.state-iterator;
  whole : l.yielded ++ into_iter_items l.state-iterator ≡ l.fn.states.items;
  counted : l.counted.items ≡ map uncounted l.yielded;
}
