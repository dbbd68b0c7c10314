use Rattle.std.proofs.Common.{rules}
use Rattle.chord_ops.proofs.turn.Turn.lose.Goals as goal

pub returns : goal.returns
returns c = search rules
