use Rattle.des_model.proofs.Rest.{audits_see_all}
use Rattle.des_laws.proofs.audits_see_all.Goals as goal

pub returns : goal.returns
returns g c m = audits_see_all m
