use Rattle.chord_judge.proofs.Digesting.{adds_unkept}
use Rattle.chord_judge.proofs.digest.Digest.keep_stabilization.Goals as goal

pub returns-in_ok-push_line-clause-adds : goal.returns-in_ok-push_line-clause-adds
returns-in_ok-push_line-clause-adds c = adds_unkept _ _ _ c.in-Some.ensures c.in_ok-push_line.ensures
