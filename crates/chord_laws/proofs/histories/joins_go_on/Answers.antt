use Rattle.chord_laws.proofs.OngoingHistories.{joins_go_on}
use Rattle.chord_laws.proofs.histories.joins_go_on.Goals as goal

pub returns : goal.returns
returns c = joins_go_on
