use Rattle.chord_ops.proofs.Going.{gone}
use Rattle.chord_ops.proofs.laws.dropped_nodes_are_gone.Goals as goal

pub returns : goal.returns
returns c = gone
