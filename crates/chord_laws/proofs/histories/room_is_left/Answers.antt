use Rattle.chord_machine.proofs.Room.{room_is_left}
use Rattle.chord_laws.proofs.histories.room_is_left.Goals as goal

pub returns : goal.returns
returns c = room_is_left
