use Rattle.chord_ops.proofs.Lives.{over}
use Rattle.chord_ops.proofs.laws.earlier_lives_are_over.Goals as goal

pub returns : goal.returns
returns c = over
