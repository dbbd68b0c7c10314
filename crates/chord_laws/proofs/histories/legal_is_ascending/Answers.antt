use Rattle.chord_machine.proofs.WellFormed.{well_formed}
use Rattle.chord_machine.specs.Chord.{chord}
use Rattle.des_model.proofs.Runs.{legal_ascends}
use Rattle.chord_laws.proofs.histories.legal_is_ascending.Goals as goal

pub returns : goal.returns
returns c sc ranges = legal_ascends (chord sc) (well_formed sc ranges)
