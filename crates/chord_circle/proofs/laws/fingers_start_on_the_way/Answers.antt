use Rattle.chord_circle.proofs.Meeting.{starts_in_order}
use Rattle.chord_circle.proofs.laws.fingers_start_on_the_way.Goals as goal

pub returns : goal.returns
returns c = starts_in_order
