use Rattle.std.proofs.Common.{rules}
use Rattle.chord_circle.proofs.circle.Circle.ident.Goals as goal

pub returns-then-raw-self-clause-value : goal.returns-then-raw-self-clause-value
returns-then-raw-self-clause-value c = search rules
