use Rattle.des_model.proofs.Distinct.{counts_bounded}
use Rattle.des_laws.proofs.counts_are_bounded.Goals as goal

pub returns : goal.returns
returns g c m sound fit w = counts_bounded m w
