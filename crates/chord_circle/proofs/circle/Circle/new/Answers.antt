use Rattle.std.proofs.Common.{arith, rules}
use Rattle.std.proofs.lemmas.Grind.{common_steps}
use Rattle.chord_circle.proofs.circle.Circle.new.Goals as goal

pub overflow_shl-last : goal.overflow_shl-last
overflow_shl-last c = search rules

pub overflow_sub-last : goal.overflow_sub-last
overflow_sub-last c = grind (arith, common_steps)

pub invariant_of-result : goal.invariant_of-result
invariant_of-result c = grind (arith, common_steps)

pub returns-clause-accepted : goal.returns-clause-accepted
returns-clause-accepted c = search rules
