use Rattle.des_model.proofs.Runs.{legal_is_history}
use Rattle.des_laws.proofs.legal_is_unique.Goals as goal

pub returns : goal.returns
returns g c m sound fit w = legal_is_history m w
