-- All that a scenario sets: what a contract sees of it. Times are in microseconds.
use Rattle.std.specs.Prelude.{ℕ, Bool, List, Option}
use Rattle.chord_scenario.specs.declared.setting.Churn.{Churn}
use Rattle.chord_scenario.specs.declared.setting.Command.{Command}
use Rattle.chord_scenario.specs.declared.setting.Coordinates.{Coordinates}
use Rattle.chord_scenario.specs.declared.setting.Jitters.{Jitters}
use Rattle.chord_scenario.specs.declared.setting.Node.{Node}
use Rattle.chord_scenario.specs.declared.setting.Rules.{Rules}
use Rattle.chord_scenario.specs.declared.setting.Span.{Span}

-- a scenario as contracts see it, with defaults in place of absent keys; nodes are numbered from 0
pub record Setup : Type 0 where
  pub profile : ℕ
  -- identifiers are below 2 ^ bits
  pub bits : ℕ
  -- the most entries of a successor list
  pub list : ℕ
  pub seed : ℕ
  pub duration : ℕ
  pub window : ℕ
  -- the latency of two nodes that no row names
  pub latency : ℕ
  pub timeout : ℕ
  pub audit : ℕ
  pub stabilize : ℕ
  pub finger : ℕ
  pub jitter : ℕ
  pub max_events : ℕ
  -- from the second profile on: the chance in millionths that a message is lost, and how much longer than its latency it
  -- may take
  pub loss : ℕ
  pub spread : ℕ
  -- in the extended profile: how often a request without a reply in time is sent again
  pub retries : ℕ
  -- in the extended profile: how long a node waits between its attempts to join, and whether it never gives up
  pub join_pause : ℕ
  pub join_forever : Bool
  -- in the extended profile: the time from one check of a node's predecessor to the next, and 0 if there are none
  pub check : ℕ
  -- in the extended profile: whether the messages that are made leave lines
  pub detail : Bool
  -- the rules of published Chord that the nodes follow: the first two profiles have none of them
  pub rules : Rules
  -- how much later than its period each timer may come: in the first two profiles all have the same jitter
  pub jitters : Jitters
  pub churn : Option Churn
  pub lookups : Option Span
  pub nodes : List Node
  -- the bootstrap nodes, those that joining nodes try in turn
  pub bootstraps : List ℕ
  pub commands : List Command
  -- for each node in turn its latency to each node, and 0 if no row names the two
  pub latencies : List ℕ
  -- the coordinates of each node in turn, and none at all if the nodes have none
  pub coordinates : List Coordinates
