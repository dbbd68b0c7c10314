use Rattle.std.proofs.Common.{[]}
use Rattle.des_model.proofs.Horizons.{goes_to_whole, begun_on_course}
use Rattle.des_laws.proofs.schedules_agree.Goals as goal

pub returns : goal.returns
returns g c m sound fit w = λ deals whole workers picks taken h g. goes_to_whole m w deals whole workers _ picks taken h g
    (begun_on_course m w deals whole 0 [] tt)
