use Rattle.std.proofs.Common.{rules}
use Rattle.des_output.proofs.faults.graver.Goals as goal

pub returns-then-rank-clause-second : goal.returns-then-rank-clause-second
returns-then-rank-clause-second c = search rules

pub returns-else-rank-clause-first : goal.returns-else-rank-clause-first
returns-else-rank-clause-first c = search rules
