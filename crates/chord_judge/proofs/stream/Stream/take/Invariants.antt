use Rattle.std.proofs.Common.{ℕ, List, ◌++◌, ◌-◌, length, take}
use Rattle.chord_judge.specs.Taken.{HasTaken}
use Rattle.chord_judge.proofs.stream.Stream.take.Given as goal
use Rattle.chord_scenario.specs.Setup.{Setup}

abbrev pub invariant-loop-start : goal.invariant-loop-start
invariant-loop-start l =
    (sc : Setup) (text written : List ℕ) → HasTaken sc text written l.fn.self → HasTaken sc (text ++ take l.start l.piece) written l.self

abbrev pub decreases-loop-start : goal.decreases-loop-start
decreases-loop-start l = length l.piece - l.start
