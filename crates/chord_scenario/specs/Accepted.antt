-- When a scenario is that of two texts.
use Rattle.std.specs.Prelude.{◌≡◌, ◌==◌, ◌≢◌, ℕ, List, [], flat_map, map, slice_get, Some, None}
use Rattle.toml.specs.Data.{Members}
use Rattle.chord_scenario.specs.declared.key.FileKey.TheVariants as key
use Rattle.chord_scenario.specs.declared.setting.Command.{Command}
use Rattle.chord_scenario.specs.declared.setting.Coordinates.{Coordinates}
use Rattle.chord_scenario.specs.declared.setting.Node.{Node}
use Rattle.chord_scenario.specs.Distances.{latency_by_coordinates}
use Rattle.chord_scenario.specs.Faults.{latency_by_rows, document, scenario_fault}
use Rattle.chord_scenario.specs.Rows.{Row, rows_of}
use Rattle.chord_scenario.specs.Sections.{sections}
use Rattle.chord_scenario.specs.Settings.{number_or, nodes_of, bootstraps_of, check_of, commands_of, coordinates_of, churn_of, jitters_of, join_pause_of, lookups_of, rules_of}
use Rattle.chord_scenario.specs.Setup.{Setup}
use Rattle.chord_scenario.specs.Values.{number_at, truth_at, truth_or}
use Rattle.chord_scenario.specs.World.{latency}

-- what the numbers and spans of a table set, or their defaults, with these nodes, commands and latencies
abbrev pub setup_with : Members → List Node → List Command → (latencies : List ℕ) → Setup
setup_with top nodes commands latencies = record {
  profile = number_at key.Profile top;
  bits = number_at key.Bits top;
  list = number_at key.List top;
  seed = number_at key.Seed top;
  duration = number_at key.DurationUs top;
  window = number_at key.WindowUs top;
  latency = number_at key.LatencyUs top;
  timeout = number_at key.TimeoutUs top;
  audit = number_at key.AuditUs top;
  stabilize = number_at key.StabilizeUs top;
  finger = number_at key.FingerUs top;
  jitter = number_or 0 key.JitterUs top;
  max_events = number_or 50000000 key.MaxEvents top;
  loss = number_or 0 key.LossPpm top;
  spread = number_or 0 key.SpreadUs top;
  retries = number_or 0 key.Retries top;
  join_pause = join_pause_of (number_at key.Profile top == 4) top;
  join_forever = truth_or (number_at key.Profile top == 4) key.JoinForever top;
  check = check_of (number_at key.Profile top == 4) top;
  detail = truth_at key.Detail top;
  rules = rules_of (number_at key.Profile top == 4) top;
  jitters = jitters_of top;
  churn = churn_of top;
  lookups = lookups_of top;
  nodes = nodes;
  bootstraps = bootstraps_of nodes;
  commands = commands;
  latencies = latencies;
  coordinates = coordinates_of (number_at key.Seed top) (sections top);
}

-- the nodes of a file, in its order
abbrev pub nodes_in : Members → List Node
nodes_in top = nodes_of (number_at key.Bits top) (sections top)

-- the commands of a file, in its order, with nodes by their numbers
abbrev pub commands_in : Members → List Command
commands_in top = commands_of (number_at key.Bits top) (nodes_in top) (sections top)

-- for each node in turn the latency that the rows give it to each node, and 0 if they give none
abbrev pub square_by_rows : List Row → List Node → List ℕ
square_by_rows rows nodes = flat_map (λ x. map (latency_by_rows 0 rows x) nodes) nodes

-- all that a file and the rows of a latency file set
abbrev pub setup_in : Members → List Row → Setup
setup_in top rows = setup_with top (nodes_in top) (commands_in top) (square_by_rows rows (nodes_in top))

-- the scenario is that of the file and the rows, and so the latency of two different nodes without coordinates is that
-- of the row that names the pair, or the file's, and that of nodes with coordinates follows from these
pub record IsSetupOf (top : Members) (rows : List Row) (sc : Setup) : Type 0 where
  pub values : sc ≡ setup_in top rows
  pub latencies : sc.coordinates ≡ [] → (i j : ℕ) (x y : Node) → i ≢ j → slice_get sc.nodes i ≡ Some x → slice_get sc.nodes j ≡ Some y
      → latency sc i j ≡ latency_by_rows (number_at key.LatencyUs top) rows x y
  pub distances : (i j : ℕ) (here there : Coordinates) → i ≢ j → slice_get sc.coordinates i ≡ Some here → slice_get sc.coordinates j ≡ Some there
      → latency sc i j ≡ latency_by_coordinates here there

-- the scenario of two texts, which have no fault
pub record Accepts (toml csv : List ℕ) (sc : Setup) : Type 0 where
  pub top : Members
  pub is_document : document toml ≡ Some top
  pub no_fault : scenario_fault toml csv ≡ None
  pub is_setup : IsSetupOf top (rows_of csv) sc
