use Rattle.std.proofs.Common.{rules}
use Rattle.des_event.proofs.listed.Listed.retain.Goals as goal

pub returns : goal.returns
returns g c = search rules
