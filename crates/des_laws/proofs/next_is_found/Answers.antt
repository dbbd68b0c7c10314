use Rattle.des_model.proofs.Rest.{next_is_found}
use Rattle.des_laws.proofs.next_is_found.Goals as goal

pub returns : goal.returns
returns g c m sound fit w = next_is_found m w
