use Rattle.std.proofs.Common.{◌≡◌, drop}
use Rattle.chord_judge.specs.Places.{first_marked}
use Rattle.chord_judge.proofs.places.first_marked.Given as goal

abbrev pub invariant-loop-place : goal.invariant-loop-place
invariant-loop-place l = first_marked l.marks l.places ≡ first_marked l.marks (drop l.place-index l.places)
