use Rattle.std.proofs.Common.{rules}
use Rattle.des_stream.proofs.Stream.of.Goals as goal

pub returns : goal.returns
returns c = search rules
