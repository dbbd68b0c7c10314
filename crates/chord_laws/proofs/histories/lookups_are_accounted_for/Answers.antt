use Rattle.chord_laws.proofs.Accounts.{lookups_are_accounted_for}
use Rattle.chord_laws.proofs.histories.lookups_are_accounted_for.Goals as goal

pub returns : goal.returns
returns c = lookups_are_accounted_for
