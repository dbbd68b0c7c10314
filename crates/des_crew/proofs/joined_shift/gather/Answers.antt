use Rattle.std.proofs.Common.{rules}
use Rattle.des_crew.proofs.joined_shift.gather.Goals as goal

pub returns-in-Ok-Ok-clause-ok : goal.returns-in-Ok-Ok-clause-ok
returns-in-Ok-Ok-clause-ok c = search rules
