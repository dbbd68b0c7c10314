use Rattle.std.proofs.Common.{◌≡◌, ◌≤◌, drop, length}
use Rattle.chord_scenario.specs.Faults.{lowest_from}
use Rattle.chord_scenario.proofs.window_check.lowest_without.Given as goal

-- the lowest of the nodes from the place on
abbrev pub invariant-loop-i : goal.invariant-loop-i
invariant-loop-i l = (l.i ≤ length l.coordinates) × (l.lowest ≡ lowest_from l.left_out l.i (drop l.i l.coordinates))

abbrev pub decreases-loop-i : goal.decreases-loop-i
decreases-loop-i l = l.i
