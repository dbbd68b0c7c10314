use Rattle.std.proofs.Common.{◌≡◌, ◌∙◌, sym, true, false}
use Rattle.std.specs.Prelude.{is_some, slice_get}
use Rattle.chord_ops.specs.Rules.{call_over, list_after}
use Rattle.chord_ops.proofs.Dropped.{dropped_alone, dropped_then}
use Rattle.chord_ops.proofs.turn.Turn.drop_and_end_call.Goals as goal

pub returns-then-branch : goal.returns-then-branch
returns-then-branch c =
    let sc = c.args.scenario.now in
    let stays : is_some (slice_get (list_after sc c.args.call.to c.args.self.now.state) 0) ≡ true = sym c.in_ok-drop_node.ensures.answer ∙ c.if-branch.true in
    rw (← dropped_then sc c.args.call.to (call_over sc c.args.number c.args.call) c.args.self.now stays, ← c.in_ok-drop_node.ensures.value) c.end_call.ensures

pub returns-else-branch : goal.returns-else-branch
returns-else-branch c =
    let sc = c.args.scenario.now in
    let strands : is_some (slice_get (list_after sc c.args.call.to c.args.self.now.state) 0) ≡ false = sym c.in_ok-drop_node.ensures.answer ∙ c.if-branch.false in
    c.in_ok-drop_node.ensures.value ∙ dropped_alone sc c.args.call.to (call_over sc c.args.number c.args.call) c.args.self.now strands
