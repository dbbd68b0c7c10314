use Rattle.std.proofs.Common.{◌≡◌, ◌++◌}
use Rattle.std.specs.Vec.Iter.{into_iter_items}
use Rattle.des_team.specs.Owned.{LeastTimeIs}
use Rattle.des_team.specs.Starts.{HaveEvents}
use Rattle.des_team.proofs.start.deal_in_turn.Given as goal

abbrev pub invariant-loop-event : goal.invariant-loop-event
invariant-loop-event g l = record {
  can_next : (goal.iterator-loop-event g).can_next l.event-iterator;
  is_finite : (goal.iterator-loop-event g).is_finite l.event-iterator;
  whole : l.yielded ++ into_iter_items l.event-iterator ≡ l.fn.events.items;
  dealt : HaveEvents l.layout.division l.yielded (into_iter_items l.event-iterator) l.initial.parts.items l.parts.items;
  least : LeastTimeIs l.yielded l.first;
}
