use Rattle.chord_ops.proofs.Going.{comes_nearer}
use Rattle.chord_ops.proofs.laws.hand_overs_come_nearer.Goals as goal

pub returns : goal.returns
returns c = comes_nearer
