-- The ranges of the settings of PHOLD.
use Rattle.std.specs.Prelude.{◌≤◌}
use Rattle.phold_rules.specs.declared.settings.Settings.{Settings}

-- each number of the settings is in its range
pub record IsInRange (p : Settings) : Type 0 where
  pub nodes_least : 2 ≤ p.nodes
  pub nodes_most : p.nodes ≤ 1000000
  pub jobs_least : 1 ≤ p.jobs
  pub jobs_most : p.jobs ≤ 1024
  pub remote_most : p.remote ≤ 1000000
  pub lookahead_least : 1 ≤ p.lookahead
  pub lookahead_most : p.lookahead ≤ 1000000000
  pub mean_most : p.mean ≤ 1000000000
  pub duration_least : 1 ≤ p.duration
  pub duration_most : p.duration ≤ 1000000000000000
  pub max_events_least : 1 ≤ p.max_events
  pub max_events_most : p.max_events ≤ 549755813888
