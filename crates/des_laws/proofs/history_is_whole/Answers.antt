use Rattle.des_model.proofs.Runs.{history_is_whole}
use Rattle.des_laws.proofs.history_is_whole.Goals as goal

pub returns : goal.returns
returns g c m = history_is_whole m
