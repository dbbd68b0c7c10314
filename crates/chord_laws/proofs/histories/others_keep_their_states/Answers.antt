use Rattle.chord_machine.specs.Chord.{chord}
use Rattle.des_model.proofs.Ascending.{state_kept}
use Rattle.chord_laws.proofs.histories.others_keep_their_states.Goals as goal

pub returns : goal.returns
returns c sc ranges = state_kept (chord sc)
