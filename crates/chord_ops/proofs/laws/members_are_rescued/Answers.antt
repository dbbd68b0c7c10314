use Rattle.chord_ops.proofs.Going.{rescued, rescued_by_another}
use Rattle.chord_ops.proofs.laws.members_are_rescued.Goals as goal

pub returns-clause-goes_on : goal.returns-clause-goes_on
returns-clause-goes_on c = rescued

pub returns-clause-by_another : goal.returns-clause-by_another
returns-clause-by_another c = rescued_by_another
