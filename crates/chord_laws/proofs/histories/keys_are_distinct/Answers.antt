use Rattle.chord_machine.proofs.WellFormed.{well_formed}
use Rattle.chord_machine.specs.Chord.{chord}
use Rattle.des_model.proofs.Distinct.{distinct}
use Rattle.chord_laws.proofs.histories.keys_are_distinct.Goals as goal

pub returns : goal.returns
returns c sc ranges = distinct (chord sc) (well_formed sc ranges)
