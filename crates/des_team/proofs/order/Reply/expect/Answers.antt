use Rattle.std.proofs.Common.{rules}
use Rattle.des_team.proofs.order.Reply.expect.Goals as goal

pub returns : goal.returns
returns g c = search rules
