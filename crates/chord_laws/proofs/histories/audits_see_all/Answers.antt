use Rattle.chord_machine.specs.Chord.{chord}
use Rattle.des_model.proofs.Rest.{audits_see_all}
use Rattle.chord_laws.proofs.histories.audits_see_all.Goals as goal

pub returns : goal.returns
returns c sc ranges = audits_see_all (chord sc)
