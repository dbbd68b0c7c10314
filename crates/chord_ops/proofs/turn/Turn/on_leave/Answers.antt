use Rattle.std.proofs.Common.{◌≡◌, ◌∙◌, sym, true}
use Rattle.chord_ops.specs.Rules.{is_member}
use Rattle.chord_ops.proofs.KeptLeaves.{heirs_fit}
use Rattle.chord_ops.proofs.KeptTable.{member_is}
use Rattle.chord_ops.proofs.turn.Turn.on_leave.Goals as goal

pub drop_node-requires-clause-state : goal.drop_node-requires-clause-state
drop_node-requires-clause-state c =
    let member : is_member c.args.self.now.state ≡ true = sym c.in_ok-drop_unless_member.ensures.answer ∙ c.if-not-branch.false in
    rw (c.inherited-self.ensures, c.in_ok-mend_list.ensures, c.in_ok-drop_unless_member.ensures.value, member)
    (heirs_fit c.args.scenario.now c.args.sender c.args.prdc c.args.list.now c.args.self.now.state c.recall_range.ensures c.requires.sender
    c.requires.prdc c.requires.list (member_is c.args.self.now.state.status member) c.requires.state)
