use Rattle.chord_ops.proofs.Going.{nearest_rescues}
use Rattle.chord_ops.proofs.laws.rescuers_are_nearest.Goals as goal

pub returns : goal.returns
returns c = nearest_rescues
