use Rattle.std.proofs.Common.{◌≡◌, ◌++◌, map}
use Rattle.std.specs.List.{range_with_len}
use Rattle.chord_scenario.specs.Settings.{drawn_place}
use Rattle.chord_scenario.proofs.node.push_class_places.Given as goal

-- the places of the numbers so far are added
abbrev pub invariant-loop-number : goal.invariant-loop-number
invariant-loop-number l =
    l.coordinates.items ≡ l.fn.coordinates.items ++ map (drawn_place l.seed l.class l.corner l.side) (range_with_len 0 l.number)
