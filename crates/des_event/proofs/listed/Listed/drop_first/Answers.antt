use Rattle.std.proofs.Common.{rules}
use Rattle.des_event.proofs.listed.Listed.drop_first.Goals as goal

pub returns-then-len-gt0 : goal.returns-then-len-gt0
returns-then-len-gt0 g c = search rules
