use Rattle.des_model.proofs.Commuting.{windows_leave_histories}
use Rattle.des_laws.proofs.windows_leave_histories.Goals as goal

pub returns : goal.returns
returns g c m sound fit w = windows_leave_histories m w
