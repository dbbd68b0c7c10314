use Rattle.std.proofs.Common.{◌≡◌, ◌-◌, ◌<◌, ◌≤◌, ℕ, map}
use Rattle.std.specs.List.{range_with_len}
use Rattle.chord_node.specs.Ring.{finger}
use Rattle.chord_node.proofs.ring.fingers.Given as goal

-- the fingers so far, and the next ones that are the last node found
abbrev pub invariant-loop-i : goal.invariant-loop-i
invariant-loop-i l = record {
  found : l.fingers ≡ map (finger l.scenario l.node) (range_with_len 2 (l.i - 2));
  again : (j : ℕ) → l.i ≤ j → j < l.beyond → l.last ≡ finger l.scenario l.node j;
}
