use Rattle.chord_laws.proofs.OngoingHistories.{retries_are_limited}
use Rattle.chord_laws.proofs.histories.retries_are_limited.Goals as goal

pub returns : goal.returns
returns c = retries_are_limited
