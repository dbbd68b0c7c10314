use Rattle.chord_machine.proofs.WellFormed.{well_formed}
use Rattle.chord_machine.specs.Chord.{chord}
use Rattle.des_model.proofs.Commuting as model
use Rattle.chord_laws.proofs.windows.windows_commute.Goals as goal

pub returns : goal.returns
returns c sc ranges = model.windows_commute (chord sc) (well_formed sc ranges)
