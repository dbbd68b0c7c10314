use Rattle.chord_machine.specs.Chord.{chord}
use Rattle.des_model.proofs.Runs.{history_is_legal}
use Rattle.chord_laws.proofs.histories.history_is_legal.Goals as goal

pub returns : goal.returns
returns c sc ranges = history_is_legal (chord sc)
