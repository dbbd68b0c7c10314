use Rattle.chord_machine.specs.Chord.{chord}
use Rattle.des_model.proofs.Turns.{windows_progress}
use Rattle.chord_laws.proofs.windows.windows_progress.Goals as goal

pub returns : goal.returns
returns c sc ranges = λ d h horizon workers. windows_progress (chord sc) d workers h horizon
