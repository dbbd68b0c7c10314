use Rattle.std.proofs.Common.{rules}
use Rattle.chord_play.proofs.running.divide.Goals as goal

pub returns-in-Blocks : goal.returns-in-Blocks
returns-in-Blocks c = search rules
