use Rattle.chord_ops.proofs.Losses.{all_lost, none_lost}
use Rattle.chord_ops.proofs.laws.losses_are_as_set.Goals as goal

pub returns-clause-none : goal.returns-clause-none
returns-clause-none c = none_lost

pub returns-clause-all : goal.returns-clause-all
returns-clause-all c = all_lost
