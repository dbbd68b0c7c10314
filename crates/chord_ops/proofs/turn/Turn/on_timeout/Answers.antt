-- The node that a call has asked is the scenario's.
use Rattle.std.proofs.Common.{◌==◌, ◌∙◌, sym, subst, rules}
use Rattle.std.specs.Prelude.{IfSome}
use Rattle.chord_node.specs.declared.state.Call.{Call}
use Rattle.chord_node.specs.Invariant.{IsCall}
use Rattle.chord_ops.proofs.Found.{IfSome-find}
use Rattle.chord_ops.specs.Rules.{timeout}
use Rattle.chord_ops.proofs.turn.Turn.on_timeout.Goals as goal

pub repeat_call-requires-clause-to : goal.repeat_call-requires-clause-to
repeat_call-requires-clause-to c =
    let sc = c.args.scenario.now in
    (subst (λ o. IfSome o (IsCall sc)) (sym c.find_call.ensures ∙ c.in-Some.is)
    (IfSome-find (IsCall sc) (λ (call : Call). call.number == c.args.number) c.args.self.now.state.calls c.requires.state.calls.each)).to

pub repeat_call-requires-clause-resent : goal.repeat_call-requires-clause-resent
unfolding timeout
repeat_call-requires-clause-resent c = search rules
