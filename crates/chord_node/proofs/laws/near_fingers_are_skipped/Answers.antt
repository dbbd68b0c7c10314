use Rattle.chord_node.proofs.NearFingers.{near_skipped}
use Rattle.chord_node.proofs.laws.near_fingers_are_skipped.Goals as goal

pub returns : goal.returns
returns c = near_skipped
