use Rattle.std.proofs.Common.{rules}
use Rattle.des_event.proofs.key.Key.is_before.Goals as goal

pub returns : goal.returns
returns c = search rules
