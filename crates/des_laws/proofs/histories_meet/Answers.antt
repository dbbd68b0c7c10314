use Rattle.des_model.proofs.Distinct.{meets}
use Rattle.des_laws.proofs.histories_meet.Goals as goal

pub returns : goal.returns
returns g c m sound fit w = meets m w
