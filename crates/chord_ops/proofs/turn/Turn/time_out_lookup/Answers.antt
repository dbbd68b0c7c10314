use Rattle.std.proofs.Common.{rules}
use Rattle.chord_ops.specs.Rules.{lookup_timed_out}
use Rattle.chord_ops.proofs.turn.Turn.time_out_lookup.Goals as goal

pub returns-clause-value : goal.returns-clause-value
unfolding lookup_timed_out
returns-clause-value c = search rules
