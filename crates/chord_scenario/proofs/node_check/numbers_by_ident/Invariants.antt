use Rattle.std.proofs.Common.{◌≡◌, ◌==◌, ◌≤◌, ℕ, length, drop, nat_cmp}
use Rattle.std.specs.BTreeMap.{get}
use Rattle.chord_scenario.specs.Search.{first_number}
use Rattle.chord_scenario.proofs.node_check.numbers_by_ident.Given as goal

-- the map has the nodes from the place on
abbrev pub invariant-loop-i : goal.invariant-loop-i
invariant-loop-i l = (l.i ≤ length l.nodes) × ((ident : ℕ) → get nat_cmp l.map ident ≡ first_number (λ x. x.ident == ident) l.i (drop l.i l.nodes))

abbrev pub decreases-loop-i : goal.decreases-loop-i
decreases-loop-i l = l.i
