-- What the report of the rumour counts.
use Rattle.std.specs.Prelude.{◌≡◌, ℕ, List, length, if◌then◌else◌}
use Rattle.std.specs.List.{sum_by}
use Rattle.rumour_rules.specs.declared.report.Report.{Report}
use Rattle.rumour_rules.specs.declared.rules.Told.{Told}

-- 1 if the node hears the rumour for the first time, else 0
abbrev pub first_of : Told → ℕ
first_of piece = if piece.first then 1 else 0

-- the report counts these tellings, and those of them by which a node heard the rumour for the first time
pub record AreCounts (pieces : List Told) (r : Report) : Type 0 where
  pub heard : r.heard ≡ sum_by first_of pieces
  pub told : r.told ≡ length pieces
