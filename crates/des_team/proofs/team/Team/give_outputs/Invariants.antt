use Rattle.std.proofs.Common.{◌≡◌, ◌+◌, length}
use Rattle.std.specs.Vec.Iter.{into_iter_items}
use Rattle.des_team.proofs.TeamOrders.{AreCleared}
use Rattle.des_team.proofs.team.Team.give_outputs.Given as goal

abbrev pub invariant-loop-output : goal.invariant-loop-output
invariant-loop-output g l = record {
  can_next : (goal.iterator-loop-output g).can_next l.output-iterator;
  is_finite : (goal.iterator-loop-output g).is_finite l.output-iterator;
  place : l.at + length (into_iter_items l.output-iterator) ≡ length l.fn.outputs.items;
  cleared : AreCleared l.at l.initial.self.parcels.items l.self.parcels.items;
  long : length l.self.parcels.items ≡ length l.initial.self.parcels.items;
  others : l.self ≡ record l.initial.self { parcels = l.self.parcels };
}
