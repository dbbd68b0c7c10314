-- Distances in the plane of coordinates, in microseconds.
use Rattle.std.specs.Prelude.{ℕ, zero, suc, ◌+◌, ◌-◌, ◌*◌, ◌<◌, ◌≤◌, nat_le, if◌then◌else◌}
use Rattle.chord_scenario.specs.declared.setting.Coordinates.{Coordinates}

-- the square root of a number, rounded down: it grows by one as soon as the next square is reached
unfoldable pub root : ℕ → ℕ
root zero = 0
root (suc n) = let r = root n in if nat_le ((r + 1) * (r + 1)) (suc n) then r + 1 else r

-- the greatest number whose square is at most n
pub record IsRoot (n r : ℕ) : Type 0 where
  pub square : r * r ≤ n
  pub next_square : n < (r + 1) * (r + 1)

-- how far two numbers are apart
abbrev pub apart : ℕ → ℕ → ℕ
apart a b = (a - b) + (b - a)

-- the square of the distance of two places
abbrev pub squared_distance : Coordinates → Coordinates → ℕ
squared_distance a b = apart a.x b.x * apart a.x b.x + apart a.y b.y * apart a.y b.y

-- the latency between two nodes by their coordinates: both heights, and their distance, rounded down
unfoldable pub latency_by_coordinates : Coordinates → Coordinates → ℕ
latency_by_coordinates a b = a.height + b.height + root (squared_distance a b)

-- coordinates that a file may give a node
pub record IsPlace (c : Coordinates) : Type 0 where
  pub x : c.x ≤ 500000000
  pub y : c.y ≤ 500000000
  pub height : c.height ≤ 100000000
