use Rattle.std.proofs.Common.{◌<◌}
use Rattle.des_event.proofs.Members.{All_at}
use Rattle.des_model.proofs.Outputs.{open_more}
use Rattle.des_laws.proofs.windows_close_audits.Goals as goal

pub returns : goal.returns
returns g c m sound fit w = λ h time horizon o clear ran some l early. open_more m w h time horizon o clear ran some l
    (λ x k. All_at (λ x. x.key.time < horizon) ran x early k)
