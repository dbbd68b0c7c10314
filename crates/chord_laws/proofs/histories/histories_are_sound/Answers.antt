use Rattle.chord_machine.proofs.WellFormed.{well_formed}
use Rattle.chord_machine.specs.Chord.{chord}
use Rattle.des_model.proofs.Distinct.{meets}
use Rattle.chord_laws.proofs.histories.histories_are_sound.Goals as goal

pub returns : goal.returns
returns c sc ranges = meets (chord sc) (well_formed sc ranges)
