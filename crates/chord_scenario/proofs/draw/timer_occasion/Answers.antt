use Rattle.std.proofs.Common.{rules}
use Rattle.chord_scenario.proofs.draw.timer_occasion.Goals as goal

pub returns-in_default : goal.returns-in_default
returns-in_default c = search rules
