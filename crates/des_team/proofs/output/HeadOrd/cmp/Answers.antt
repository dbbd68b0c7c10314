use Rattle.std.proofs.Common.{rules}
use Rattle.des_team.proofs.output.HeadOrd.cmp.Goals as goal

pub returns : goal.returns
returns c = search rules
