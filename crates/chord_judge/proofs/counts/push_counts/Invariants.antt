use Rattle.std.proofs.Common.{[]}
use Rattle.chord_judge.specs.Kept.{Adds}
use Rattle.chord_judge.proofs.counts.push_counts.Given as goal

abbrev pub invariant-loop-place : goal.invariant-loop-place
invariant-loop-place l = Adds [] l.fn.text.items l.text.items
