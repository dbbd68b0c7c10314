use Rattle.std.proofs.Common.{rules}
use Rattle.chord_node.proofs.state.NodeState.never_up.Goals as goal

pub returns : goal.returns
returns c = search rules
