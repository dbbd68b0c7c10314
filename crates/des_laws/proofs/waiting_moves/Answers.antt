use Rattle.des_model.proofs.Rest.{waiting_moves}
use Rattle.des_laws.proofs.waiting_moves.Goals as goal

pub returns : goal.returns
returns g c m sound fit w = waiting_moves m w
