use Rattle.des_model.proofs.Runs.{legal_ascends}
use Rattle.des_laws.proofs.legal_is_ascending.Goals as goal

pub returns : goal.returns
returns g c m sound fit w = legal_ascends m w
