use Rattle.chord_ops.proofs.Replying.{checks_predecessor}
use Rattle.chord_ops.proofs.laws.members_check.Goals as goal

pub returns : goal.returns
returns c = checks_predecessor
