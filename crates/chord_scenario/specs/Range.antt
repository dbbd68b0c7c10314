-- What holds of every scenario. The greatest numbers are those of the extended profile: no engine has a use for the
-- tighter ones of the others.
use Rattle.std.specs.Prelude.{ℕ, ◌≡◌, ◌≢◌, ◌⊎◌, ◌+◌, ◌*◌, ◌<◌, ◌≤◌, ◌^◌, true, false, [], length, count_by, IfSome, IsSome}
use Rattle.std.specs.List.{All}
use Rattle.std.specs.List.Sorted.{IsStrictlyIncreasing}
use Rattle.chord_scenario.specs.declared.setting.Action.{Action}
use Rattle.chord_scenario.specs.declared.setting.Action.TheVariants as action
use Rattle.chord_scenario.specs.declared.setting.Churn.{Churn}
use Rattle.chord_scenario.specs.declared.setting.Command.{Command}
use Rattle.chord_scenario.specs.declared.setting.Jitters.{Jitters}
use Rattle.chord_scenario.specs.declared.setting.Rules.{Rules}
use Rattle.chord_scenario.specs.declared.setting.Span.{Span}
use Rattle.chord_scenario.specs.Distances.{IsPlace}
use Rattle.chord_scenario.specs.Setup.{Setup}
use Rattle.chord_scenario.specs.Values.{is_profile}
use Rattle.chord_scenario.specs.World.{node_count, ident_of, is_churn_node, latency}

-- a span of times from at least one microsecond to at most this many
pub record IsSpanUpTo (most : ℕ) (span : Span) : Type 0 where
  pub positive : 1 ≤ span.least
  pub ordered : span.least ≤ span.greatest
  pub bounded : span.greatest ≤ most

-- a span of times that a scenario names
abbrev pub IsSpan : Span → Type 0
IsSpan span = IsSpanUpTo 1000000000 span

-- lives and down times are from 1 microsecond to 1,000 seconds; the chance of a leave is at most a million millionths
pub record IsChurn (churn : Churn) : Type 0 where
  pub life : IsSpan churn.life
  pub down : IsSpan churn.down
  pub leave : churn.leave ≤ 1000000

-- a time of at least one microsecond and at most 1,000 seconds
pub record IsInterval (time : ℕ) : Type 0 where
  pub least : 1 ≤ time
  pub greatest : time ≤ 1000000000

-- the nodes and places that a command names are there
abbrev pub IsActionOf : Setup → Action → Type 0
IsActionOf sc (action.Join via) = via < node_count sc
IsActionOf sc action.Crash = Unit {0}
IsActionOf sc action.Leave = Unit {0}
IsActionOf sc (action.Lookup key) = key < 2 ^ sc.bits

-- a command comes before the end of the run, at a node of the scenario; a node to join through is one too, and a key to
-- look up lies on the circle
pub record IsCommandOf (sc : Setup) (command : Command) : Type 0 where
  pub in_time : command.at < sc.duration
  pub node : command.node < node_count sc
  pub action : IsActionOf sc command.action

-- the most events of a run: an event makes at most seven others, and these are fewer than 2 ^ 40, below which a node
-- numbers its events
abbrev pub most_events : ℕ
most_events = 100000000000

-- the rules of the first two profiles: none of published Chord, and a lookup avoids at most eight nodes
abbrev pub first_rules : Rules
first_rules = record {
  list_routes = false;
  goes_on = false;
  ask_owner = false;
  lookup_timeouts = 8;
  drop_silent = false;
  skip_near = false;
  random_start = false;
  clean_lists = false;
  join_asks = false;
  create_alone = false;
}

-- timers come later than their periods by at most 1,000 seconds
pub record AreJitters (jitters : Jitters) : Type 0 where
  pub stabilize : jitters.stabilize ≤ 1000000000
  pub finger : jitters.finger ≤ 1000000000
  pub check : jitters.check ≤ 1000000000

-- the numbers of a scenario are in the ranges of the file format; in the first profile messages are neither lost nor
-- delayed at random, and in the extended profile alone are requests sent again, joins paused, predecessors checked,
-- messages told of and rules of published Chord followed
pub record NumbersInRange (sc : Setup) : Type 0 where
  pub bits_least : 3 ≤ sc.bits
  pub bits_greatest : sc.bits ≤ 128
  pub list_least : 1 ≤ sc.list
  pub list_greatest : sc.list ≤ 32
  pub duration_least : 1 ≤ sc.duration
  pub duration_greatest : sc.duration ≤ 1000000000000
  pub window : IsInterval sc.window
  pub latency : IsInterval sc.latency
  pub timeout : IsInterval sc.timeout
  pub audit : IsInterval sc.audit
  pub audits : sc.duration ≤ 1000000 * sc.audit
  pub stabilize : IsInterval sc.stabilize
  pub finger : IsInterval sc.finger
  pub jitter : sc.jitter ≤ 1000000000
  pub max_events_least : 1 ≤ sc.max_events
  pub max_events_greatest : sc.max_events ≤ most_events
  pub loss : sc.loss ≤ 1000000
  pub spread : sc.spread ≤ 1000000000
  pub retries : sc.retries ≤ 3
  pub join_pause : sc.join_pause ≤ 1000000000
  pub check : sc.check ≤ 1000000000
  pub known : is_profile sc.profile ≡ true
  pub lossless : sc.profile ≡ 1 → (sc.loss ≡ 0) × (sc.spread ≡ 0)
  pub asked_once : sc.profile ≤ 2 → sc.retries ≡ 0
  pub joined_at_once : sc.profile ≤ 2 → (sc.join_pause ≡ 0) × (sc.join_forever ≡ false)
  pub unchecked : sc.profile ≤ 2 → sc.check ≡ 0
  pub undetailed : sc.profile ≤ 2 → sc.detail ≡ false
  pub lookup_timeouts : sc.rules.lookup_timeouts ≤ 64
  pub unpublished : sc.profile ≤ 2 → sc.rules ≡ first_rules
  pub jitters : AreJitters sc.jitters
  pub one_jitter : sc.profile ≤ 2 → sc.jitters ≡ record { stabilize = sc.jitter; finger = sc.jitter; check = sc.jitter }

-- at most 65,536 nodes have tables of their own, and up to 16 classes have at most 1,048,576 each; no two nodes are at one
-- place of the circle; bootstrap nodes are in the order of the file, and only the extended profile has any
pub record NodesInRange (sc : Setup) : Type 0 where
  pub least : 2 ≤ node_count sc
  pub greatest : node_count sc ≤ 16842752
  pub on_circle : (i : ℕ) → i < node_count sc → ident_of sc i < 2 ^ sc.bits
  pub apart : (i j : ℕ) → i < node_count sc → j < node_count sc → ident_of sc i ≡ ident_of sc j → i ≡ j
  pub bootstraps : All (λ i. i < node_count sc) sc.bootstraps
  pub in_order : IsStrictlyIncreasing sc.bootstraps
  pub no_bootstraps : sc.profile ≤ 2 → sc.bootstraps ≡ []
  pub initial : sc.profile ≤ 2 → sc.list + 1 ≤ count_by (λ n. n.initial) sc.nodes

-- messages take time, the same in both directions, and between different nodes at least a window
pub record LatenciesInRange (sc : Setup) : Type 0 where
  pub square : length sc.latencies ≡ node_count sc * node_count sc
  pub positive : (from to : ℕ) → 1 ≤ latency sc from to
  pub symmetric : (from to : ℕ) → from < node_count sc → to < node_count sc → latency sc from to ≡ latency sc to from
  pub bounded : (from to : ℕ) → from < node_count sc → to < node_count sc → latency sc from to ≤ 1000000000
  pub window : (from to : ℕ) → from < node_count sc → to < node_count sc → from ≢ to → sc.window ≤ latency sc from to

-- all nodes have coordinates that the file format allows, or none has
pub record CoordinatesInRange (sc : Setup) : Type 0 where
  pub all_or_none : (sc.coordinates ≡ []) ⊎ (length sc.coordinates ≡ node_count sc)
  pub places : All IsPlace sc.coordinates

-- the first two profiles have no leaves: neither by a command nor at the end of a life
pub record LeavesInRange (sc : Setup) : Type 0 where
  pub no_command : sc.profile ≤ 2 → All (λ command. command.action ≢ action.Leave) sc.commands
  pub no_share : sc.profile ≤ 2 → IfSome sc.churn (λ churn. churn.leave ≡ 0)

-- every scenario has this
pub record IsInRange (sc : Setup) : Type 0 where
  pub numbers : NumbersInRange sc
  pub nodes : NodesInRange sc
  pub latencies : LatenciesInRange sc
  pub coordinates : CoordinatesInRange sc
  pub churn : IfSome sc.churn IsChurn
  pub churn_is_set : (i : ℕ) → is_churn_node sc i ≡ true → IsSome sc.churn
  pub lookups : IfSome sc.lookups IsSpan
  pub few_commands : length sc.commands ≤ 100000
  pub commands : All (IsCommandOf sc) sc.commands
  pub leaves : LeavesInRange sc
