use Rattle.std.proofs.Common.{◌≡◌, ◌++◌, drop, length}
use Rattle.std.specs.Vec.Iter.{into_iter_items}
use Rattle.std.specs.Prelude.{None}
use Rattle.des_team.specs.Exchanges.{outputs_of, soonest}
use Rattle.des_team.proofs.PutBack.{AreBackTo}
use Rattle.des_team.proofs.team.Team.put_back.Given as goal

abbrev pub invariant-loop-result : goal.invariant-loop-result
invariant-loop-result g l = record {
  can_next : (goal.iterator-loop-result g).can_next l.result-iterator;
  is_finite : (goal.iterator-loop-result g).is_finite l.result-iterator;
  rest : drop l.at l.fn.results.items ≡ into_iter_items l.result-iterator;
  outputs : l.outputs.items ++ outputs_of (into_iter_items l.result-iterator) ≡ outputs_of l.fn.results.items;
  back : AreBackTo l.at l.fn.results.items l.self.parcels.items;
  long : length l.self.parcels.items ≡ length l.initial.self.parcels.items;
  next : soonest l.self.next (into_iter_items l.result-iterator) ≡ soonest None l.fn.results.items;
  others : l.self ≡ record l.initial.self { parcels = l.self.parcels; next = l.self.next };
}
