use Rattle.des_model.proofs.Runs.{possible_from_legal}
use Rattle.des_laws.proofs.legal_is_possible.Goals as goal

pub returns : goal.returns
returns g c m = possible_from_legal m
