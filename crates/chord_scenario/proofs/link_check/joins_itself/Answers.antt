use Rattle.std.proofs.Common.{rules}
use Rattle.chord_scenario.proofs.link_check.joins_itself.Goals as goal

pub returns-then-matches-2 : goal.returns-then-matches-2
returns-then-matches-2 c = search rules
