use Rattle.chord_ops.proofs.Cleaned.{cleaned_of_itself, cleaned_of_silent}
use Rattle.chord_ops.proofs.laws.lists_are_cleaned.Goals as goal

pub returns-clause-silent : goal.returns-clause-silent
returns-clause-silent c = cleaned_of_silent

pub returns-clause-itself : goal.returns-clause-itself
returns-clause-itself c = cleaned_of_itself
