use Rattle.chord_machine.proofs.WellFormed.{well_formed}
use Rattle.chord_machine.specs.Chord.{chord}
use Rattle.des_model.proofs.Horizons.{whole_from}
use Rattle.chord_laws.proofs.histories.ends_are_whole.Goals as goal

pub returns : goal.returns
returns c sc ranges = whole_from (chord sc) (well_formed sc ranges)
