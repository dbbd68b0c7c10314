use Rattle.std.proofs.Common.{◌≡◌, map, take}
use Rattle.chord_scenario.proofs.Ranks.{AreNoted}
use Rattle.chord_scenario.proofs.order.order_of.Given as goal

abbrev pub invariant-loop-rank : goal.invariant-loop-rank
invariant-loop-rank l = record {
  noted : AreNoted l.placed-items l.ranks.items l.rank;
  numbers : l.numbers.items ≡ map (λ p. p.node) (take l.rank l.placed-items);
}
