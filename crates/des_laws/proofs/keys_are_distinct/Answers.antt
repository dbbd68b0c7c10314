use Rattle.des_model.proofs.Distinct.{distinct}
use Rattle.des_laws.proofs.keys_are_distinct.Goals as goal

pub returns : goal.returns
returns g c m sound fit w = distinct m w
