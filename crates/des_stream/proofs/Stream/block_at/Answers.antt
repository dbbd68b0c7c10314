use Rattle.std.proofs.Common.{arith}
use Rattle.des_stream.proofs.SeedKey.{key_of_seed}
use Rattle.des_stream.proofs.Stream.block_at.Goals as goal

pub returns : goal.returns
returns c k below =
    let key = key_of_seed c.self.inside.seed (omega arith) in
    rw (← c.self.view_is, ← key) (rw (c.low_half.ensures, c.high_half.ensures) at c.block.ensures k below)
