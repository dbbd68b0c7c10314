use Rattle.std.proofs.Common.{◌≡◌, map}
use Rattle.std.specs.List.{range_with_len}
use Rattle.chord_judge.proofs.Scanned.{place_of}
use Rattle.chord_judge.proofs.places.places_of.Given as goal

abbrev pub invariant-loop-node : goal.invariant-loop-node
invariant-loop-node l = l.places.items ≡ map (place_of l.scenario) (range_with_len 0 l.node)
