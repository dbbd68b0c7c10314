use Rattle.std.proofs.Common.{sym}
use Rattle.chord_ops.specs.Rules.{list_left}
use Rattle.chord_ops.proofs.Dropped.{dropped_state}
use Rattle.chord_ops.proofs.turn.Turn.drop_node.Goals as goal

pub returns-clause-state : goal.returns-clause-state
unfolding list_left
returns-clause-state c = λ stays.
    rw (c.in_ok-replace.ensures, c.in_ok-leave_list.ensures)
    (dropped_state c.args.scenario.now c.args.silent c.in-Some.head c.args.self.now.state
    (sym (rw c.in_ok-leave_list.ensures at c.in-Some.ensures)) c.requires.state)
