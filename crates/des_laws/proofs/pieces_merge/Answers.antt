use Rattle.des_model.proofs.Commuting.{pieces_in_order}
use Rattle.des_laws.proofs.pieces_merge.Goals as goal

pub returns : goal.returns
returns g c m sound fit w = pieces_in_order m w
