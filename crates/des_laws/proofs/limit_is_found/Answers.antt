use Rattle.des_model.proofs.Commuting.{limit_found}
use Rattle.des_laws.proofs.limit_is_found.Goals as goal

pub returns : goal.returns
returns g c m sound fit w = limit_found m w
