-- The rotation skips the fingers that the first successor covers.
use Rattle.std.proofs.Common.{◌≡◌, ℕ, ◌<◌, ◌≤◌, Bool, true, Some, nat_lt, ◌∙◌, sym, ap}
use Rattle.std.specs.Prelude.{if◌then◌else◌}
use Rattle.chord_circle.proofs.Meeting.{starts_in_order}
use Rattle.chord_circle.specs.Circle.{finger_start, in_half_open}
use Rattle.chord_scenario.specs.declared.scenario.Scenario.{Scenario}
use Rattle.chord_scenario.specs.Range.{IsInRange}
use Rattle.chord_scenario.specs.World.{ident_of, node_count}
use Rattle.chord_node.specs.Rotation.{first_beyond, rotation_start}

pub near_skipped : (sc : Scenario) (n head i : ℕ) → IsInRange sc → sc.rules.skip_near ≡ true → n < node_count sc → head < node_count sc → 2 ≤ i → i ≤ sc.bits
    → in_half_open sc.bits (ident_of sc n) (finger_start sc.bits (ident_of sc n) i) (ident_of sc head) ≡ nat_lt i (rotation_start sc n (Some head))
unfolding rotation_start
near_skipped sc n head i ranges skips known head_known least most =
    starts_in_order sc.bits (ident_of sc n) (ident_of sc head) i ranges.numbers.bits_greatest (ranges.nodes.on_circle n known)
    (ranges.nodes.on_circle head head_known) least most
    ∙ sym (ap (λ (b : Bool). nat_lt i (if b then first_beyond sc n (Some head) else 2)) skips)
