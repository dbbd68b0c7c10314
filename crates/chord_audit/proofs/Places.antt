-- What lies between two nodes, by their identifiers and by their ranks.
use Rattle.std.proofs.Common.{◌≡◌, ℕ, ◌<◌, ◌^◌, nat_lt, List, ◌∙◌, arith, slice_index}
use Rattle.std.proofs.lemmas.Bool.Decides.{nat_tests}
use Rattle.chord_circle.proofs.Distance.{distance-ahead, distance-behind}
use Rattle.chord_circle.specs.Circle.{between}
use Rattle.chord_scenario.specs.Order.{AreRanks}
use Rattle.chord_scenario.specs.Range.{IsInRange}
use Rattle.chord_scenario.specs.Setup.{Setup}
use Rattle.chord_scenario.specs.World.{node_count, ident_of}
use Rattle.chord_audit.specs.Audit.{lies_between}
use Rattle.chord_audit.specs.Tables.{is_inside}

-- what lies between two identifiers
pub between_inside : (bits a x b : ℕ) → a < 2 ^ bits → x < 2 ^ bits → b < 2 ^ bits → between bits a x b ≡ is_inside a x b
between_inside bits a x b ha hx hb = grind (arith, nat_tests, distance-ahead, distance-behind)

pub lies_inside : (sc : Setup) (ranks : List ℕ) → IsInRange sc → AreRanks sc ranks → (a x b : ℕ) → a < node_count sc → x < node_count sc → b < node_count sc
    → lies_between sc a x b ≡ is_inside (slice_index ranks a) (slice_index ranks x) (slice_index ranks b)
lies_inside sc ranks range are a x b la lx lb =
    let ax : nat_lt (slice_index ranks a) (slice_index ranks x) ≡ nat_lt (ident_of sc a) (ident_of sc x) = are.order a x la lx in
    let xb : nat_lt (slice_index ranks x) (slice_index ranks b) ≡ nat_lt (ident_of sc x) (ident_of sc b) = are.order x b lx lb in
    let ab : nat_lt (slice_index ranks a) (slice_index ranks b) ≡ nat_lt (ident_of sc a) (ident_of sc b) = are.order a b la lb in
    let on = range.nodes.on_circle in
    between_inside sc.bits (ident_of sc a) (ident_of sc x) (ident_of sc b) (on a la) (on x lx) (on b lb) ∙ cc
