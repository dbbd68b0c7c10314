use Rattle.des_model.proofs.Unique.{runs_unique}
use Rattle.des_laws.proofs.runs_are_unique.Goals as goal

pub returns : goal.returns
returns g c m = λ deals workers r picks taken taken' h h' a b. runs_unique m deals workers r picks taken h a taken' h' b
