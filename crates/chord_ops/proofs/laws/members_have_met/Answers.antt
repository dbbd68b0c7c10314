use Rattle.chord_ops.proofs.Passing.{members_met}
use Rattle.chord_ops.proofs.laws.members_have_met.Goals as goal

pub returns : goal.returns
returns c = members_met
