use Rattle.chord_laws.proofs.OngoingHistories.{calls_are_timed}
use Rattle.chord_laws.proofs.histories.calls_are_timed.Goals as goal

pub returns : goal.returns
returns c = calls_are_timed
