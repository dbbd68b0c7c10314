use Rattle.des_model.proofs.Horizons.{whole_from}
use Rattle.des_laws.proofs.ends_are_whole.Goals as goal

pub returns : goal.returns
returns g c m sound fit w = whole_from m w
