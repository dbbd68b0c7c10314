use Rattle.chord_node.specs.Invariant.{IsLookup}
use Rattle.chord_node.specs.declared.state.Lookup.{Lookup}
use Rattle.std.proofs.Common.{◌<◌, length}
use Rattle.chord_ops.proofs.Found.{at_index_known}
use Rattle.chord_ops.proofs.turn.Turn.answer_lookup_of.Goals as goal

pub answer_lookup-requires-clause-lookup : goal.answer_lookup-requires-clause-lookup
answer_lookup-requires-clause-lookup c =
    let s = c.args.self.now.state in
    at_index_known (IsLookup c.args.scenario.now (length s.fingers)) s.lookups c.in-Some.index c.remove-lookup.result c.requires.lookups c.remove-lookup.ensures.value

pub answer_lookup-requires-clause-hops : goal.answer_lookup-requires-clause-hops
answer_lookup-requires-clause-hops c =
    let s = c.args.self.now.state in
    at_index_known (λ (lookup : Lookup). lookup.hops < lookup.steps) s.lookups c.in-Some.index c.remove-lookup.result c.requires.asked c.remove-lookup.ensures.value
