use Rattle.chord_judge.proofs.Owned.{unique}
use Rattle.chord_judge.proofs.laws.right_owners_are_unique.Goals as goal

pub returns : goal.returns
returns c = unique
