use Rattle.chord_machine.proofs.WellFormed.{well_formed}
use Rattle.chord_machine.specs.Chord.{chord}
use Rattle.des_model.proofs.Rest.{next_is_found}
use Rattle.chord_laws.proofs.histories.next_is_found.Goals as goal

pub returns : goal.returns
returns c sc ranges = next_is_found (chord sc) (well_formed sc ranges)
