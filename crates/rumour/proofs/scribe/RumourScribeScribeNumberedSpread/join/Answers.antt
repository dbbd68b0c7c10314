use Rattle.std.proofs.Common.{refl}
use Rattle.rumour_rules.proofs.Counted.{joined}
use Rattle.rumour.proofs.scribe.RumourScribeScribeNumberedSpread.join.Goals as goal

pub returns-clause-counted : goal.returns-clause-counted
returns-clause-counted c = λ mine others. joined mine others c.args.self.counts c.args.other.counts _ refl refl
