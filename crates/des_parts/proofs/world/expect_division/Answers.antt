use Rattle.std.proofs.Common.{rules}
use Rattle.des_parts.proofs.world.expect_division.Goals as goal

pub returns-clause-divides : goal.returns-clause-divides
returns-clause-divides g c = search rules
