use Rattle.des_model.proofs.Parts.{possible_from_part_run}
use Rattle.des_laws.proofs.part_runs_are_possible.Goals as goal

pub returns : goal.returns
returns g c m = λ d h horizon p ran o r. possible_from_part_run m d h horizon o p ran r
