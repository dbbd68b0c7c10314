use Rattle.std.proofs.Common.{rules}
use Rattle.chord_ops.specs.Procedures.{join_failed}
use Rattle.chord_ops.proofs.turn.Turn.fail_join.Goals as goal

pub returns-then-attempt-lt-MOST_FAILURES-clause-value : goal.returns-then-attempt-lt-MOST_FAILURES-clause-value
unfolding join_failed
returns-then-attempt-lt-MOST_FAILURES-clause-value c = search rules
