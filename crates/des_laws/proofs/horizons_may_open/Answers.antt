use Rattle.des_model.proofs.Horizons.{horizon_may_open, no_audit_inside}
use Rattle.des_laws.proofs.horizons_may_open.Goals as goal

pub returns : goal.returns
returns g c m sound fit w = λ h e l s. (horizon_may_open m w h e l s, no_audit_inside m w e.key.time)
