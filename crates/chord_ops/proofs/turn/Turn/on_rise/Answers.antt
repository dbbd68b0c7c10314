use Rattle.std.proofs.Common.{rules}
use Rattle.chord_ops.specs.Rules.{rise}
use Rattle.chord_ops.proofs.turn.Turn.on_rise.Goals as goal

pub returns-in-Some : goal.returns-in-Some
unfolding rise
returns-in-Some c = search rules
