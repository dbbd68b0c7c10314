use Rattle.des_model.proofs.Ascending.{state_kept}
use Rattle.des_laws.proofs.others_keep_their_states.Goals as goal

pub returns : goal.returns
returns g c m = state_kept m
