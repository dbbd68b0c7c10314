use Rattle.chord_ops.proofs.Leavers.{leaver_gone, leaver_precedes_none}
use Rattle.chord_ops.proofs.laws.leavers_are_gone.Goals as goal

pub returns-clause-neighbours : goal.returns-clause-neighbours
returns-clause-neighbours c = λ sc turn leaver first prdc list. leaver_gone sc turn leaver first prdc list

pub returns-clause-predecessor : goal.returns-clause-predecessor
returns-clause-predecessor c = leaver_precedes_none
