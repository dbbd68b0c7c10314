use Rattle.des_model.proofs.Rest.{pending_is_rest}
use Rattle.des_laws.proofs.pending_is_the_rest.Goals as goal

pub returns : goal.returns
returns g c m sound fit w = pending_is_rest m w
