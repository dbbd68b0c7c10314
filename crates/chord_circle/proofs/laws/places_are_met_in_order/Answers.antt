use Rattle.chord_circle.proofs.Meeting.{met_first}
use Rattle.chord_circle.proofs.laws.places_are_met_in_order.Goals as goal

pub returns : goal.returns
returns c = met_first
