use Rattle.chord_machine.specs.Chord.{chord}
use Rattle.des_model.proofs.Steps.{steps_run_parts}
use Rattle.chord_laws.proofs.windows.steps_run_parts.Goals as goal

pub returns : goal.returns
returns c sc ranges = steps_run_parts (chord sc)
