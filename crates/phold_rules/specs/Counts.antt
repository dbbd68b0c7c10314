-- What the report of PHOLD counts.
use Rattle.std.specs.Prelude.{◌≡◌, ℕ, ◌==◌, List, length, if◌then◌else◌}
use Rattle.std.specs.List.{sum_by}
use Rattle.phold_rules.specs.declared.hop.Hop.{Hop}
use Rattle.phold_rules.specs.declared.report.PholdReport.{PholdReport}

-- 1 if the job goes to another node, else 0
abbrev pub remote_of : Hop → ℕ
remote_of hop = if hop.node == hop.receiver then 0 else 1

-- the report counts these hops, those to another node among them, and adds up their times
pub record AreCounts (hops : List Hop) (r : PholdReport) : Type 0 where
  pub events : r.events ≡ length hops
  pub remote : r.remote ≡ sum_by remote_of hops
  pub time_sum : r.time_sum ≡ sum_by (λ hop. hop.time) hops
