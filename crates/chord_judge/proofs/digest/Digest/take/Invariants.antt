use Rattle.std.proofs.Common.{List, ℕ, ◌++◌, ◌-◌, length, take}
use Rattle.chord_judge.specs.Digests.{IsDigestOf}
use Rattle.chord_judge.proofs.digest.Digest.take.Given as goal

abbrev pub invariant-loop-start : goal.invariant-loop-start
invariant-loop-start l = (text written : List ℕ) → IsDigestOf text written l.fn.self → IsDigestOf (text ++ take l.start l.piece) written l.self

abbrev pub decreases-loop-start : goal.decreases-loop-start
decreases-loop-start l = length l.piece - l.start
