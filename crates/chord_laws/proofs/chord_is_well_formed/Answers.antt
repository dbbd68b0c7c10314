use Rattle.chord_machine.proofs.WellFormed.{well_formed}
use Rattle.chord_laws.proofs.chord_is_well_formed.Goals as goal

pub returns : goal.returns
returns c = well_formed
