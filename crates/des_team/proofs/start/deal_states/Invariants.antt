use Rattle.std.proofs.Common.{◌≡◌, ◌+◌, length}
use Rattle.std.specs.Vec.Iter.{into_iter_items}
use Rattle.des_team.proofs.Starts.{AreDealt}
use Rattle.des_team.proofs.start.deal_states.Given as goal

abbrev pub invariant-loop-state : goal.invariant-loop-state
invariant-loop-state g l = record {
  can_next : (goal.iterator-loop-state g).can_next l.state-iterator;
  is_finite : (goal.iterator-loop-state g).is_finite l.state-iterator;
  place : l.node + length (into_iter_items l.state-iterator) ≡ length l.fn.states.items;
  dealt : AreDealt l.layout.division l.node (into_iter_items l.state-iterator) l.fn.states.items l.initial.parts.items l.parts.items;
}
