use Rattle.chord_machine.specs.Chord.{chord}
use Rattle.des_model.proofs.Parts.{possible_from_part_run}
use Rattle.chord_laws.proofs.windows.part_runs_are_possible.Goals as goal

pub returns : goal.returns
returns c sc ranges = λ d h horizon p ran o r. possible_from_part_run (chord sc) d h horizon o p ran r
