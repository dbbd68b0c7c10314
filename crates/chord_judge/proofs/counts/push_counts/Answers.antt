use Rattle.std.proofs.Common.{[]}
use Rattle.chord_judge.proofs.Digesting.{adds_both}
use Rattle.chord_judge.proofs.counts.push_counts.Goals as goal

pub loop-place-preserved : goal.loop-place-preserved
loop-place-preserved c = adds_both [] [] _ _ _ c.loop-place.invariant c.in_ok-push_count.ensures
