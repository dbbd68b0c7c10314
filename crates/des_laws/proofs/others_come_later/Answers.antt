use Rattle.des_model.proofs.Commuting.{others_later}
use Rattle.des_laws.proofs.others_come_later.Goals as goal

pub returns : goal.returns
returns g c m sound fit w = others_later m w
