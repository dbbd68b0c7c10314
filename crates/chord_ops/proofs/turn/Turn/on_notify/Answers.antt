use Rattle.std.proofs.Common.{rules}
use Rattle.chord_ops.specs.Rules.{notified}
use Rattle.chord_ops.proofs.turn.Turn.on_notify.Goals as goal

pub returns-in-Some : goal.returns-in-Some
unfolding notified
returns-in-Some c = search rules
