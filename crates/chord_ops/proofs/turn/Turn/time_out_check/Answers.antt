use Rattle.std.proofs.Common.{rules}
use Rattle.chord_ops.specs.Rules.{check_timed_out}
use Rattle.chord_ops.proofs.turn.Turn.time_out_check.Goals as goal

pub returns-in_ok-note : goal.returns-in_ok-note
unfolding check_timed_out
returns-in_ok-note c = search rules
