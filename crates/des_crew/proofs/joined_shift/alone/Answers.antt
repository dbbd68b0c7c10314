use Rattle.std.proofs.Common.{rules}
use Rattle.des_crew.proofs.joined_shift.alone.Goals as goal

pub returns-in-Some-clause-ok : goal.returns-in-Some-clause-ok
returns-in-Some-clause-ok c = search rules
