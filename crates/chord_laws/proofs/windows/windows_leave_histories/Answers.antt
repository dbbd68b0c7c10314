use Rattle.chord_machine.proofs.WellFormed.{well_formed}
use Rattle.chord_machine.specs.Chord.{chord}
use Rattle.des_model.proofs.Commuting.{windows_leave_histories}
use Rattle.chord_laws.proofs.windows.windows_leave_histories.Goals as goal

pub returns : goal.returns
returns c sc ranges = windows_leave_histories (chord sc) (well_formed sc ranges)
