use Rattle.chord_ops.proofs.Replying.{replies}
use Rattle.chord_ops.proofs.laws.members_reply.Goals as goal

pub returns : goal.returns
returns c = replies
