use Rattle.chord_node.specs.Invariant.{IsLookup}
use Rattle.std.proofs.Common.{arith, length, refl}
use Rattle.chord_ops.proofs.Acting.{goes_from, when_ok}
use Rattle.chord_ops.proofs.Found.{at_index_known}
use Rattle.chord_ops.proofs.turn.Turn.time_out_lookup_of.Goals as goal

pub time_out_lookup-requires-clause-lookup : goal.time_out_lookup-requires-clause-lookup
time_out_lookup-requires-clause-lookup c =
    let s = c.args.self.now.state in
    at_index_known (IsLookup c.args.scenario.now (length s.fingers)) s.lookups c.in-Some.index c.remove-lookup.result c.requires.lookups c.remove-lookup.ensures.value

pub returns-in-Some-clause-goes_on : goal.returns-in-Some-clause-goes_on
returns-in-Some-clause-goes_on c =
    when_ok _ (λ on. goes_from 2 2 c.args.self.now _ _ on refl refl (omega arith) (omega arith)) c.time_out_lookup.ensures.goes_on
