use Rattle.chord_machine.specs.Chord.{chord}
use Rattle.des_model.proofs.Audits.{open_after}
use Rattle.chord_laws.proofs.histories.events_close_audits.Goals as goal

pub returns : goal.returns
returns c sc ranges = λ h e. open_after (chord sc) e h
