use Rattle.des_model.proofs.Steps.{steps_run_parts}
use Rattle.des_laws.proofs.steps_run_parts.Goals as goal

pub returns : goal.returns
returns g c m = steps_run_parts m
