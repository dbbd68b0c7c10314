use Rattle.std.proofs.Common.{arith}
use Rattle.std.proofs.lemmas.Bool.Decides.{nat_tests}
use Rattle.chord_circle.proofs.Distance.{distance-ahead, distance-behind}
use Rattle.chord_circle.proofs.circle.Circle.between.Goals as goal

pub returns-then-lt-2 : goal.returns-then-lt-2
returns-then-lt-2 c = grind (arith, nat_tests, distance-ahead, distance-behind)

pub returns-else-lt-2 : goal.returns-else-lt-2
returns-else-lt-2 c = grind (arith, nat_tests, distance-ahead, distance-behind)

pub returns-then-lt-3 : goal.returns-then-lt-3
returns-then-lt-3 c = grind (arith, nat_tests, distance-ahead, distance-behind)

pub returns-else-lt-3 : goal.returns-else-lt-3
returns-else-lt-3 c = grind (arith, nat_tests, distance-ahead, distance-behind)

pub returns-then-eq : goal.returns-then-eq
returns-then-eq c = grind (arith, nat_tests, distance-ahead, distance-behind)
