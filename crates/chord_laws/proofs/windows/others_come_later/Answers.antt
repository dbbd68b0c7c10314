use Rattle.chord_machine.proofs.WellFormed.{well_formed}
use Rattle.chord_machine.specs.Chord.{chord}
use Rattle.des_model.proofs.Commuting.{others_later}
use Rattle.chord_laws.proofs.windows.others_come_later.Goals as goal

pub returns : goal.returns
returns c sc ranges = others_later (chord sc) (well_formed sc ranges)
