-- Which fingers a node looks up, in rotation.
use Rattle.std.specs.Prelude.{ℕ, ◌+◌, ◌-◌, ◌&&◌, nat_le, Option, Some, None, if◌then◌else◌}
use Rattle.chord_circle.specs.Circle.{finger_beyond}
use Rattle.chord_scenario.specs.declared.scenario.Scenario.{Scenario}
use Rattle.chord_scenario.specs.Draws.{finger_number}
use Rattle.chord_scenario.specs.World.{ident_of}

-- the first finger of node n that begins beyond its first successor, or the second one if it has no successor
abbrev pub first_beyond : Scenario → (n : ℕ) → (head : Option ℕ) → ℕ
first_beyond sc n None = 2
first_beyond sc n (Some head) = finger_beyond sc.bits (ident_of sc n) (ident_of sc head)

-- the first finger in the rotation of node n: the second one, or with `skip_near` the first one that the successor does not
-- cover
unfoldable pub rotation_start : Scenario → (n : ℕ) → (head : Option ℕ) → ℕ
rotation_start sc n head = if sc.rules.skip_near then first_beyond sc n head else 2

-- the finger that a member looks up first: the second one, or with `random_start` any one in the rotation
unfoldable pub first_looked_up : Scenario → (n : ℕ) → (head : Option ℕ) → ℕ
first_looked_up sc n head =
    let start = rotation_start sc n head in
    if sc.rules.random_start && nat_le start sc.bits then start + finger_number sc n (sc.bits + 1 - start) else 2
