use Rattle.chord_judge.proofs.Owned.{passes, passes_only}
use Rattle.chord_judge.proofs.laws.right_owners_pass_the_test_alone.Goals as goal

pub returns : goal.returns
returns c = λ sc member key node there. (passes_only sc member key node there, passes sc member key node)
