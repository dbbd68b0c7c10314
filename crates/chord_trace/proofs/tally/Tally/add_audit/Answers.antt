-- The tally has the trace with the audit at its end.
use Rattle.std.proofs.Common.{refl}
use Rattle.chord_trace.proofs.Tallies.{with_audit}
use Rattle.chord_trace.proofs.tally.Tally.add_audit.Goals as goal

pub returns-clause-piece : goal.returns-clause-piece
returns-clause-piece c = λ profile pieces t. with_audit profile pieces c.args.audit.now c.args.self.now _ t refl refl refl refl c.add.ensures
