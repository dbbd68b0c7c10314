use Rattle.chord_ops.proofs.Replying.{weighs_notifiers}
use Rattle.chord_ops.proofs.laws.members_weigh_notifiers.Goals as goal

pub returns : goal.returns
returns c = weighs_notifiers
