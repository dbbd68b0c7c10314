use Rattle.chord_machine.proofs.WellFormed.{well_formed}
use Rattle.chord_machine.specs.Chord.{chord}
use Rattle.des_model.proofs.Rest.{pending_is_rest}
use Rattle.chord_laws.proofs.histories.pending_is_the_rest.Goals as goal

pub returns : goal.returns
returns c sc ranges = pending_is_rest (chord sc) (well_formed sc ranges)
