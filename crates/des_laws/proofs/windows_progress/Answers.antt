use Rattle.des_model.proofs.Turns.{windows_progress}
use Rattle.des_laws.proofs.windows_progress.Goals as goal

pub returns : goal.returns
returns g c m = λ d h horizon workers. windows_progress m d workers h horizon
