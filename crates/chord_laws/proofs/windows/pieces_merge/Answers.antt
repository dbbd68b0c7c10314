use Rattle.chord_machine.proofs.WellFormed.{well_formed}
use Rattle.chord_machine.specs.Chord.{chord}
use Rattle.des_model.proofs.Commuting.{pieces_in_order}
use Rattle.chord_laws.proofs.windows.pieces_merge.Goals as goal

pub returns : goal.returns
returns c sc ranges = pieces_in_order (chord sc) (well_formed sc ranges)
