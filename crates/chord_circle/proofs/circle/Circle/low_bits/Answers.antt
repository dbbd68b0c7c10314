use Rattle.std.proofs.Common.{rules}
use Rattle.chord_circle.proofs.circle.Circle.low_bits.Goals as goal

pub nonzero_rem-raw : goal.nonzero_rem-raw
nonzero_rem-raw c = search rules

pub returns-else-raw-self-clause-value : goal.returns-else-raw-self-clause-value
returns-else-raw-self-clause-value c = search rules

pub returns-else-raw-self-clause-on_circle : goal.returns-else-raw-self-clause-on_circle
returns-else-raw-self-clause-on_circle c = search rules
