use Rattle.std.proofs.Common.{rules}
use Rattle.std.proofs.lemmas.List.Sorted.{IsNonDecreasingBy-from_sort_by_key}
use Rattle.chord_scenario.proofs.order.sort_by_ident.Goals as goal

pub returns-clause-sorted : goal.returns-clause-sorted
returns-clause-sorted c = IsNonDecreasingBy-from_sort_by_key (λ p. p.ident) _ c.sort_unstable_by_key.ensures.sorted (λ a r q k. search rules)
