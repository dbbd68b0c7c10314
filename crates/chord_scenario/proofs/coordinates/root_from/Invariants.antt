use Rattle.std.proofs.Common.{◌+◌, ◌*◌, ◌<◌, ◌≤◌}
use Rattle.chord_scenario.proofs.coordinates.root_from.Given as goal

-- the root is not above
abbrev pub invariant-loop-root : goal.invariant-loop-root
invariant-loop-root l = record {
  above : l.square < (l.root + 1) * (l.root + 1);
  small : l.root ≤ 1000000000;
}

abbrev pub decreases-loop-root : goal.decreases-loop-root
decreases-loop-root l = l.root
