use Rattle.std.proofs.Common.{rules}
use Rattle.chord_ops.specs.Rules.{finger_turned}
use Rattle.chord_ops.proofs.turn.Turn.turn_finger.Goals as goal

pub returns : goal.returns
unfolding finger_turned
returns c = search rules
