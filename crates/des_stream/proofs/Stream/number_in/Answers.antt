use Rattle.std.proofs.Common.{rules}
use Rattle.des_stream.proofs.Stream.number_in.Goals as goal

pub returns-clause-value : goal.returns-clause-value
returns-clause-value c = search rules
