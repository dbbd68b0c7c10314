use Rattle.chord_ops.proofs.Accounts.{accounted_for}
use Rattle.chord_ops.proofs.laws.lookups_are_accounted_for.Goals as goal

pub returns : goal.returns
returns c = accounted_for
