use Rattle.std.proofs.Common.{rules}
use Rattle.des_event.proofs.event.Event.try_clone.Goals as goal

pub returns : goal.returns
returns c = search rules
