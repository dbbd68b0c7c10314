use Rattle.std.proofs.Common.{rules}
use Rattle.des_output.proofs.watched.Watched.new.Goals as goal

pub returns-clause-sound : goal.returns-clause-sound
returns-clause-sound g c = search rules
