use Rattle.chord_machine.specs.Chord.{chord}
use Rattle.des_model.proofs.Runs.{possible_from_legal}
use Rattle.chord_laws.proofs.histories.legal_is_possible.Goals as goal

pub returns : goal.returns
returns c sc ranges = possible_from_legal (chord sc)
