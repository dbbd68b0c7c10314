-- The number that decides which finger is looked up first is below its bound.
use Rattle.std.proofs.Common.{ℕ, ◌<◌}
use Rattle.des_stream.proofs.Drawn.{first_below}
use Rattle.des_stream.specs.Draws.{own_stream}
use Rattle.chord_scenario.specs.Draws.{finger_number, finger_purpose}
use Rattle.chord_scenario.specs.Setup.{Setup}

pub finger_below : (sc : Setup) (n bound : ℕ) → 0 < bound → finger_number sc n bound < bound
finger_below sc n bound some = first_below sc.seed (own_stream n finger_purpose) 0 bound some
