use Rattle.chord_ops.proofs.Answered.{taken_known}
use Rattle.chord_ops.proofs.turn.Turn.answer_list.Goals as goal

pub notify_head-requires-clause-successors : goal.notify_head-requires-clause-successors
notify_head-requires-clause-successors c =
    rw c.in_ok-take_successors.ensures (taken_known c.args.scenario.now c.args.asked c.args.list.now c.requires.asked c.requires.list)
