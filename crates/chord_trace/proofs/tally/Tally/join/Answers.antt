-- The tally has one trace and then the other.
use Rattle.std.proofs.Common.{refl}
use Rattle.chord_trace.proofs.Tallies.{joined}
use Rattle.chord_trace.proofs.tally.Tally.join.Goals as goal

pub returns-clause-pieces : goal.returns-clause-pieces
returns-clause-pieces c profile mine others t u =
    joined profile mine others c.args.self c.args.other _ t u refl refl c.join.ensures c.in_ok-join.ensures.has c.join-3.ensures
