-- The ranges of the settings of a rumour.
use Rattle.std.specs.Prelude.{◌≤◌}
use Rattle.rumour_rules.specs.declared.settings.Settings.{Settings}

-- each number of the settings is in its range
pub record IsInRange (p : Settings) : Type 0 where
  pub nodes_least : 2 ≤ p.nodes
  pub nodes_most : p.nodes ≤ 1000000
  pub delay_least : 1 ≤ p.delay
  pub delay_most : p.delay ≤ 1000000000
  pub duration_least : 1 ≤ p.duration
  pub duration_most : p.duration ≤ 1000000000000000
  pub max_events_least : 1 ≤ p.max_events
  pub max_events_most : p.max_events ≤ 549755813888
