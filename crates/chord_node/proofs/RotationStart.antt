-- The rotation begins with a finger from the second on, or after the last.
use Rattle.std.proofs.Common.{◌≡◌, ℕ, ◌+◌, ◌-◌, ◌<◌, ◌≤◌, ◌&&◌, Bool, true, false, List, [], ◌∷◌, Option, Some, None, nat_le, refl, arith}
use Rattle.std.proofs.lemmas.Bool.Decides.{nat_tests}
use Rattle.std.specs.List.{Contains}
use Rattle.std.specs.Prelude.{slice_get, unwrap_or, if◌then◌else◌}
use Rattle.chord_circle.proofs.Digits.{beyond_within}
use Rattle.chord_scenario.specs.declared.scenario.Scenario.{Scenario}
use Rattle.chord_scenario.proofs.FirstFingers.{finger_below}
use Rattle.chord_scenario.specs.Draws.{finger_number}
use Rattle.chord_scenario.specs.Range.{IsInRange}
use Rattle.des_event.proofs.Members.{contains_here}
use Rattle.chord_scenario.specs.World.{ident_of, node_count}
use Rattle.chord_node.specs.Ring.{clockwise, first_met}
use Rattle.chord_node.proofs.Rings.{clockwise-known}
use Rattle.chord_node.specs.Rotation.{first_beyond, first_looked_up, rotation_start}

pub record IsStart (bits start : ℕ) : Type 0 where
  pub least : 2 ≤ start
  pub greatest : start ≤ bits + 1

beyond : (sc : Scenario) (n : ℕ) (head : Option ℕ) → IsInRange sc → IsStart sc.bits (first_beyond sc n head)
beyond sc n None ranges = record { least = omega arith; greatest = omega (arith, ranges.numbers.bits_least) }
beyond sc n (Some head) ranges =
    let is = beyond_within sc.bits (ident_of sc n) (ident_of sc head) ranges.numbers.bits_least ranges.numbers.bits_greatest in
    record { least = is.least; greatest = is.greatest }

pub start_within : (sc : Scenario) (n : ℕ) (head : Option ℕ) → IsInRange sc → IsStart sc.bits (rotation_start sc n head)
unfolding rotation_start
start_within sc n head ranges = by sc.rules.skip_near
  where
    by : (b : Bool) → IsStart sc.bits (if b then first_beyond sc n head else 2)
    by true = beyond sc n head ranges
    by false = record { least = omega arith; greatest = omega (arith, ranges.numbers.bits_least) }

-- the finger that is looked up first is one of the fingers
pub first_within : (sc : Scenario) (n : ℕ) (head : Option ℕ) → IsInRange sc → (2 ≤ first_looked_up sc n head) × (first_looked_up sc n head ≤ sc.bits)
unfolding first_looked_up
first_within sc n head ranges = by sc.rules.random_start (nat_le start sc.bits) refl
  where
    start : ℕ
    start = rotation_start sc n head

    by : (drawn b : Bool) → nat_le start sc.bits ≡ b
        → (2 ≤ (if drawn && b then start + finger_number sc n (sc.bits + 1 - start) else 2))
        × ((if drawn && b then start + finger_number sc n (sc.bits + 1 - start) else 2) ≤ sc.bits)
    by false b test = (omega arith, omega (arith, ranges.numbers.bits_least))
    by true false test = (omega arith, omega (arith, ranges.numbers.bits_least))
    by true true test =
        let is = start_within sc n head ranges in
        let within : start ≤ sc.bits = grind (arith, nat_tests) in
        let below : finger_number sc n (sc.bits + 1 - start) < sc.bits + 1 - start = finger_below sc n (sc.bits + 1 - start) (omega (arith, within)) in
        (omega (arith, is.least), omega (arith, below))

-- the first member that is met is the scenario's
pub first_met-known : (sc : Scenario) (n : ℕ) → n < node_count sc → first_met sc n < node_count sc
first_met-known sc n own = by (clockwise sc n) (clockwise-known sc n)
  where
    by : (xs : List ℕ) → ((x : ℕ) → Contains xs x → x < node_count sc) → unwrap_or (slice_get xs 0) n < node_count sc
    by [] known = own
    by (x ∷ xs) known = known x (contains_here x xs)
