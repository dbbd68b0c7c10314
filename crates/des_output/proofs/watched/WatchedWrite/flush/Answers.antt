use Rattle.std.proofs.Common.{rules}
use Rattle.des_output.proofs.watched.WatchedWrite.flush.Goals as goal

pub returns-clause-noted : goal.returns-clause-noted
returns-clause-noted g c = search rules
