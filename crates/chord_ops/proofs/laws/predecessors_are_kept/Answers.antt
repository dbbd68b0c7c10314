use Rattle.chord_ops.proofs.Staying.{predecessor_lost}
use Rattle.chord_ops.proofs.laws.predecessors_are_kept.Goals as goal

pub returns : goal.returns
returns c = predecessor_lost
