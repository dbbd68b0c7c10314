use Rattle.std.proofs.Common.{[]}
use Rattle.chord_judge.proofs.Digesting.{adds_both}
use Rattle.chord_judge.proofs.digest.Digest.pass_edges.Goals as goal

pub loop-preserved : goal.loop-preserved
loop-preserved c = (c.loop.invariant.0, adds_both [] [] _ _ _ c.loop.invariant.1 c.in_ok-push_to.ensures)
