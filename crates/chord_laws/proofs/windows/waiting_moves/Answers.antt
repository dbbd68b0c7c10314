use Rattle.chord_machine.proofs.WellFormed.{well_formed}
use Rattle.chord_machine.specs.Chord.{chord}
use Rattle.des_model.proofs.Rest.{waiting_moves}
use Rattle.chord_laws.proofs.windows.waiting_moves.Goals as goal

pub returns : goal.returns
returns c sc ranges = waiting_moves (chord sc) (well_formed sc ranges)
