use Rattle.des_model.proofs.Runs.{history_is_legal}
use Rattle.des_laws.proofs.history_is_legal.Goals as goal

pub returns : goal.returns
returns g c m = history_is_legal m
