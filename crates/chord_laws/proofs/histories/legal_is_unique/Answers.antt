use Rattle.chord_machine.proofs.WellFormed.{well_formed}
use Rattle.chord_machine.specs.Chord.{chord}
use Rattle.des_model.proofs.Runs.{legal_is_history}
use Rattle.chord_laws.proofs.histories.legal_is_unique.Goals as goal

pub returns : goal.returns
returns c sc ranges = legal_is_history (chord sc) (well_formed sc ranges)
