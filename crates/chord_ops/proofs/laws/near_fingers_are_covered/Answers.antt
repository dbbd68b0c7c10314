use Rattle.chord_ops.proofs.Covered.{covered}
use Rattle.chord_ops.proofs.laws.near_fingers_are_covered.Goals as goal

pub returns : goal.returns
returns c = covered
