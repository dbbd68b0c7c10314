use Rattle.std.proofs.Common.{◌≡◌, ◌<◌, length}
use Rattle.std.specs.List.{AllByRecursion}
use Rattle.std.specs.Vec.Iter.{into_iter_items}
use Rattle.des_parts.specs.declared.copies.Touched.{Touched}
use Rattle.des_parts.specs.Exchanges.{with_states}
use Rattle.des_parts.proofs.exchanging.put_states.Given as goal

abbrev pub invariant-loop-touched : goal.invariant-loop-touched
invariant-loop-touched g l = record {
  can_next : (goal.iterator-loop-touched g).can_next l.touched-iterator;
  is_finite : (goal.iterator-loop-touched g).is_finite l.touched-iterator;
  put : with_states (into_iter_items l.touched-iterator) l.states.items ≡ with_states l.fn.nodes.items l.initial.states.items;
  inside : AllByRecursion (λ (s : Touched _). s.node < length l.states.items) (into_iter_items l.touched-iterator);
}
