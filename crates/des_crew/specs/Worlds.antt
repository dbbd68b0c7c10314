-- The window that a crew runs.
use Rattle.std.specs.Prelude.{◌≡◌, ℕ}
use Rattle.des_crew.specs.Seats.{Counter}
use Rattle.des_model.specs.Machine.{Machine}
use Rattle.des_parts.specs.declared.world.World.{World}
use Rattle.des_parts.specs.PartRuns.{IsNextWindow}

-- the counter deals the parts of the world's next window, which ends at the horizon
pub record IsWindowOf {State Body Piece : Type 0} (m : Machine State Body Piece) (w : World State Body) (horizon : ℕ) (draws : Counter) : Type 0 where
  pub window : IsNextWindow m w horizon
  pub parts : draws.parts ≡ w.division.parts
