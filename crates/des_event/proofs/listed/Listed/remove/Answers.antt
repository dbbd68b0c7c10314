use Rattle.std.proofs.Common.{rules}
use Rattle.des_event.proofs.listed.Listed.remove.Goals as goal

pub returns-clause-rest : goal.returns-clause-rest
returns-clause-rest g c = search rules
