use Rattle.std.proofs.Common.{rules}
use Rattle.chord_ops.specs.Rules.{check_tick}
use Rattle.chord_ops.proofs.turn.Turn.on_check_tick.Goals as goal

pub returns-in-Some : goal.returns-in-Some
unfolding check_tick
returns-in-Some c = search rules
