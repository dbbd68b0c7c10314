use Rattle.chord_ops.proofs.FirstTimers.{timers_armed}
use Rattle.chord_ops.proofs.laws.first_timers_are_armed.Goals as goal

pub returns : goal.returns
returns c = timers_armed
