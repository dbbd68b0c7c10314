use Rattle.std.proofs.Common.{rules}
use Rattle.chord_event.proofs.body.Body.try_clone.Goals as goal

pub returns : goal.returns
returns c = search rules
