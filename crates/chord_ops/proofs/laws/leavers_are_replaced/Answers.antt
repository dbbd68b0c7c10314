use Rattle.chord_ops.proofs.Leavers.{predecessor_inherited, predecessor_kept, successor_inherited}
use Rattle.chord_ops.proofs.laws.leavers_are_replaced.Goals as goal

pub returns-clause-predecessor : goal.returns-clause-predecessor
returns-clause-predecessor c = λ sc turn leaver prdc list. predecessor_inherited leaver prdc turn.state.prdc

pub returns-clause-kept : goal.returns-clause-kept
returns-clause-kept c = λ sc turn leaver prdc list. predecessor_kept leaver prdc turn.state.prdc

pub returns-clause-successor : goal.returns-clause-successor
returns-clause-successor c = λ sc turn leaver first prdc list. successor_inherited sc leaver first list turn.state.succ
