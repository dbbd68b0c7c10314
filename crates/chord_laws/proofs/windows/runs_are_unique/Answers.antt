use Rattle.chord_machine.specs.Chord.{chord}
use Rattle.des_model.proofs.Unique.{runs_unique}
use Rattle.chord_laws.proofs.windows.runs_are_unique.Goals as goal

pub returns : goal.returns
returns c sc ranges = λ deals workers r picks taken taken' h h' a b. runs_unique (chord sc) deals workers r picks taken h a taken' h' b
