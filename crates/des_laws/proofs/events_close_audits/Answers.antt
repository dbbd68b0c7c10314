use Rattle.des_model.proofs.Audits.{open_after}
use Rattle.des_laws.proofs.events_close_audits.Goals as goal

pub returns : goal.returns
returns g c m = λ h e. open_after m e h
