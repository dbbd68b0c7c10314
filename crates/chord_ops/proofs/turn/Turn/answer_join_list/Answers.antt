use Rattle.std.proofs.Common.{sym, subst}
use Rattle.chord_node.specs.Invariant.{AllNodes}
use Rattle.chord_ops.proofs.KeptJoins.{cleaned_known}
use Rattle.chord_ops.proofs.turn.Turn.answer_join_list.Goals as goal

pub take_join_list-requires-clause-list : goal.take_join_list-requires-clause-list
take_join_list-requires-clause-list c =
    let sc = c.args.scenario.now in
    let me = c.take_attempt.new.self.state.me in
    let avoid = c.as_slice.result.now in
    subst (AllNodes sc) (sym c.in_ok-list.ensures) (cleaned_known sc me c.args.asked avoid c.args.list.now c.requires.asked c.requires.list)
