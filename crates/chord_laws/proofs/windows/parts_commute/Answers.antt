use Rattle.chord_machine.proofs.WellFormed.{well_formed}
use Rattle.chord_machine.specs.Chord.{chord}
use Rattle.des_model.proofs.Commuting.{commutes}
use Rattle.chord_laws.proofs.windows.parts_commute.Goals as goal

pub returns : goal.returns
returns c sc ranges = λ d whole h time horizon o ran sealed. commutes (chord sc) (well_formed sc ranges) d whole h time horizon o ran sealed
