use Rattle.std.proofs.Common.{arith}
use Rattle.des_stream.proofs.Rows.{looked_up}
use Rattle.des_stream.proofs.block.words.Goals as goal

pub returns : goal.returns
returns c =
    looked_up c.args.rows (omega arith) (omega arith) (omega arith) (omega arith) (omega arith)
