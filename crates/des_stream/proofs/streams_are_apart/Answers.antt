use Rattle.std.proofs.Common.{arith}
use Rattle.des_stream.proofs.streams_are_apart.Goals as goal

pub returns : goal.returns
returns c = λ n m p q few_n few_m same. (omega (arith, few_n, few_m, same), omega (arith, few_n, few_m, same))
