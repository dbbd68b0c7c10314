use Rattle.std.proofs.Common.{rules}
use Rattle.chord_scenario.proofs.key.top_keys.Goals as goal

pub returns-in-2 : goal.returns-in-2
returns-in-2 c = search rules

pub returns-in_default : goal.returns-in_default
returns-in_default c = search rules
