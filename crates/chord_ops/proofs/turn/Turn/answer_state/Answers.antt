use Rattle.std.proofs.Common.{rules}
use Rattle.chord_ops.specs.Rules.{predecessor_told, state_answered}
use Rattle.chord_ops.proofs.Answered.{taken_known}
use Rattle.chord_ops.proofs.turn.Turn.answer_state.Goals as goal

pub notify_head-requires-clause-successors : goal.notify_head-requires-clause-successors
notify_head-requires-clause-successors c =
    rw c.in_ok-take_successors.ensures (taken_known c.args.scenario.now c.args.call.to c.args.list.now c.requires.asked c.requires.list)

pub notify_head-requires-else-between-clause-successors : goal.notify_head-requires-else-between-clause-successors
notify_head-requires-else-between-clause-successors c =
    rw c.in_ok-take_successors.ensures (taken_known c.args.scenario.now c.args.call.to c.args.list.now c.requires.asked c.requires.list)

pub returns-then-between : goal.returns-then-between
unfolding predecessor_told state_answered
returns-then-between c = search rules
