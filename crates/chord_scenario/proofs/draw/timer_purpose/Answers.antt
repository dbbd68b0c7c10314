use Rattle.std.proofs.Common.{rules}
use Rattle.chord_scenario.proofs.draw.timer_purpose.Goals as goal

pub returns-in-CheckTick : goal.returns-in-CheckTick
returns-in-CheckTick c = search rules
