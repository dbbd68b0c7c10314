use Rattle.std.proofs.Common.{rules}
use Rattle.chord_scenario.proofs.window_check.lower.Goals as goal

pub returns-in-Some : goal.returns-in-Some
returns-in-Some c = search rules
