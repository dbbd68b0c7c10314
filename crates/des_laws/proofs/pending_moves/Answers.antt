use Rattle.des_model.proofs.Rest.{pending_moves}
use Rattle.des_laws.proofs.pending_moves.Goals as goal

pub returns : goal.returns
returns g c m sound fit w = pending_moves m w
