use Rattle.std.proofs.Common.{rules}
use Rattle.des_stream.proofs.Stream.numbers_in.Goals as goal

pub returns-clause-second : goal.returns-clause-second
returns-clause-second c = search rules
