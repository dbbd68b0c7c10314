use Rattle.des_model.proofs.Commuting.{windows_commute}
use Rattle.des_laws.proofs.windows_commute.Goals as goal

pub returns : goal.returns
returns g c m sound fit w = windows_commute m w
