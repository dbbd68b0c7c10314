use Rattle.des_model.proofs.Commuting.{commutes}
use Rattle.des_laws.proofs.parts_commute.Goals as goal

pub returns : goal.returns
returns g c m sound fit w = λ d whole h time horizon o ran sealed. commutes m w d whole h time horizon o ran sealed
