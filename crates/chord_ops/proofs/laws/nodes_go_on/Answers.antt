use Rattle.chord_ops.proofs.OngoingRules.{going_effect}
use Rattle.chord_ops.proofs.laws.nodes_go_on.Goals as goal

pub returns : goal.returns
returns c = going_effect
