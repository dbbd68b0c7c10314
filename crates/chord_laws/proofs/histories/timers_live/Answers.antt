use Rattle.chord_laws.proofs.OngoingHistories.{timers_live}
use Rattle.chord_laws.proofs.histories.timers_live.Goals as goal

pub returns : goal.returns
returns c = timers_live
