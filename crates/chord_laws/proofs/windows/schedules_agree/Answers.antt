use Rattle.std.proofs.Common.{[]}
use Rattle.chord_machine.proofs.WellFormed.{well_formed}
use Rattle.chord_machine.specs.Chord.{chord}
use Rattle.des_model.proofs.Horizons.{goes_to_whole, begun_on_course}
use Rattle.chord_laws.proofs.windows.schedules_agree.Goals as goal

pub returns : goal.returns
returns c sc ranges = λ deals whole workers picks taken h g.
    let w = well_formed sc ranges in
    goes_to_whole (chord sc) w deals whole workers _ picks taken h g (begun_on_course (chord sc) w deals whole 0 [] tt)
