use Rattle.std.proofs.Common.{rules}
use Rattle.chord_ops.specs.Rules.{call_repeated}
use Rattle.chord_ops.proofs.turn.Turn.repeat_call.Goals as goal

pub returns : goal.returns
unfolding call_repeated
returns c = search rules
