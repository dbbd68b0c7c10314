use Rattle.std.proofs.Common.{arith}
use Rattle.des_stream.proofs.Rows.{stirs}
use Rattle.des_stream.proofs.block.stir.Goals as goal

pub returns : goal.returns
returns c = stirs c.args.bits c.requires.0 c.requires.1 c.args.row c.args.other (omega arith) (omega arith)
