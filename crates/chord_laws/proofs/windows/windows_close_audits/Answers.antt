use Rattle.std.proofs.Common.{◌<◌}
use Rattle.des_event.proofs.Members.{All_at}
use Rattle.chord_machine.proofs.WellFormed.{well_formed}
use Rattle.chord_machine.specs.Chord.{chord}
use Rattle.des_model.proofs.Outputs.{open_more}
use Rattle.chord_laws.proofs.windows.windows_close_audits.Goals as goal

pub returns : goal.returns
returns c sc ranges = λ h time horizon o clear ran some l early. open_more (chord sc) (well_formed sc ranges) h time horizon o clear ran some l
    (λ x k. All_at (λ x. x.key.time < horizon) ran x early k)
