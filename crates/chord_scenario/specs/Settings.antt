-- What a scenario file sets: its nodes and commands, its numbers with their defaults.
use Rattle.std.specs.Prelude.{
  ℕ,
  ◌+◌,
  ◌-◌,
  ◌%◌,
  ◌^◌,
  Bool,
  true,
  false,
  ◌&&◌,
  ◌||◌,
  List,
  [],
  ◌∷◌,
  ◌++◌,
  map,
  flat_map,
  filter,
  bytes_eq,
  nat_lt,
  Option,
  Some,
  None,
  is_some,
  option_map,
  option_and_then,
  unwrap_or,
  length,
  min,
  decimal,
  slice_get,
  if◌then◌else◌,
}
use Rattle.std.specs.List.{list_any, range_with_len}
use Rattle.chord_circle.specs.Names.{ident_of_name}
use Rattle.des_stream.specs.Draws.{first_number, own_stream, second_number}
use Rattle.toml.specs.Data.{Members, as_table}
use Rattle.chord_scenario.specs.declared.key.Place.{Place}
use Rattle.chord_scenario.specs.declared.key.Place.TheVariants as place
use Rattle.chord_scenario.specs.declared.key.FileKey.{FileKey}
use Rattle.chord_scenario.specs.declared.key.FileKey.TheVariants as key
use Rattle.chord_scenario.specs.declared.setting.Coordinates.{Coordinates}
use Rattle.chord_scenario.specs.declared.setting.Node.{Node}
use Rattle.chord_scenario.specs.declared.node.Flags.{Flags}
use Rattle.chord_scenario.specs.declared.setting.Jitters.{Jitters}
use Rattle.chord_scenario.specs.declared.setting.Rules.{Rules}
use Rattle.chord_scenario.specs.declared.setting.Span.{Span}
use Rattle.chord_scenario.specs.declared.setting.Churn.{Churn}
use Rattle.chord_scenario.specs.declared.setting.Command.{Command}
use Rattle.chord_scenario.specs.declared.setting.Action.{Action}
use Rattle.chord_scenario.specs.declared.setting.Action.TheVariants.{Join, Crash, Leave, Lookup}
use Rattle.chord_scenario.specs.declared.operation.Operation.{Operation}
use Rattle.chord_scenario.specs.declared.operation.Operation.TheVariants as operation
use Rattle.chord_scenario.specs.Draws.{place_purpose}
use Rattle.chord_scenario.specs.Operations.{operation_named}
use Rattle.chord_scenario.specs.Values.{data_at, number_at, truth_at, truth_or, text_at, as_whole, identifier_of}
use Rattle.chord_scenario.specs.Sections.{Section}

-- the number at a key, and the default if the key holds no whole number from 0
abbrev pub number_or : ℕ → FileKey → Members → ℕ
number_or default k ms = unwrap_or (option_and_then as_whole (data_at k ms)) default

-- which rules of published Chord the nodes follow: in the extended profile those that the file does not switch off
unfoldable pub rules_of : (extended : Bool) → Members → Rules
rules_of extended top = record {
  list_routes = truth_or extended key.ListRoutes top;
  goes_on = truth_or extended key.GoesOn top;
  ask_owner = truth_or extended key.AskOwner top;
  lookup_timeouts = number_or (if extended then 32 else 8) key.LookupTimeouts top;
  drop_silent = truth_or extended key.DropSilent top;
  skip_near = truth_or extended key.SkipNear top;
  random_start = truth_or extended key.RandomStart top;
  clean_lists = truth_or extended key.CleanLists top;
  join_asks = truth_or extended key.JoinAsks top;
  create_alone = truth_at key.CreateAlone top;
}

-- how long a node waits between its attempts to join: in the extended profile as long as for a reply, if the file does not
-- say otherwise
abbrev pub join_pause_of : (extended : Bool) → Members → ℕ
join_pause_of extended top = number_or (if extended then number_at key.TimeoutUs top else 0) key.JoinPauseUs top

-- the time from one check of a predecessor to the next: in the extended profile that from one stabilization to the next, if
-- the file does not say otherwise
abbrev pub check_of : (extended : Bool) → Members → ℕ
check_of extended top = number_or (if extended then number_at key.StabilizeUs top else 0) key.CheckUs top

-- how much later than its period each timer may come: by a jitter of its own, or by that of all
unfoldable pub jitters_of : Members → Jitters
jitters_of top = record {
  stabilize = number_or (number_or 0 key.JitterUs top) key.StabilizeJitterUs top;
  finger = number_or (number_or 0 key.JitterUs top) key.FingerJitterUs top;
  check = number_or (number_or 0 key.JitterUs top) key.CheckJitterUs top;
}

-- a number that is a place on a circle of this many bits
abbrev pub on_circle : (bits : ℕ) → ℕ → Option ℕ
on_circle bits n = if nat_lt n (2 ^ bits) then Some n else None

-- the identifier at a key, if the key holds one of the circle
abbrev pub identifier_at : (bits : ℕ) → FileKey → Members → Option ℕ
identifier_at bits k ms = option_and_then (on_circle bits) (option_and_then identifier_of (data_at k ms))

-- the name at a key, as bytes, and an empty name if the key holds no text
abbrev pub name_at : FileKey → Members → List ℕ
name_at k ms = unwrap_or (text_at k ms) []

-- a node; its identifier comes from its name if none is given
unfoldable pub node_of : (bits : ℕ) → Members → Node
node_of bits ms = record {
  name = name_at key.Name ms;
  ident = unwrap_or (identifier_at bits key.Id ms) (ident_of_name bits (name_at key.Name ms));
  initial = truth_at key.Initial ms;
  churn = truth_at key.Churn ms;
  bootstrap = truth_at key.Bootstrap ms;
}

-- what a table says of each of its nodes
abbrev pub flags_at : Members → Flags
flags_at ms = record { initial = truth_at key.Initial ms; churn = truth_at key.Churn ms; bootstrap = truth_at key.Bootstrap ms }

-- the node of this number in a class: its name is the prefix followed by the number, and its identifier comes from its name
unfoldable pub numbered_node : (bits : ℕ) → (prefix : List ℕ) → Flags → (number : ℕ) → Node
numbered_node bits prefix flags number = record {
  name = prefix ++ decimal number;
  ident = ident_of_name bits (prefix ++ decimal number);
  initial = flags.initial;
  churn = flags.churn;
  bootstrap = flags.bootstrap;
}

-- the nodes of a class, which are numbered from 0
abbrev pub class_of : (bits : ℕ) → Members → List Node
class_of bits ms = map (numbered_node bits (name_at key.Prefix ms) (flags_at ms)) (range_with_len 0 (number_at key.Count ms))

-- whether the node of this number is a bootstrap node
abbrev pub is_bootstrap : List Node → ℕ → Bool
is_bootstrap nodes i = unwrap_or (option_map (λ n. n.bootstrap) (slice_get nodes i)) false

-- the bootstrap nodes, in the order of the file
unfoldable pub bootstraps_of : List Node → List ℕ
bootstraps_of nodes = filter (is_bootstrap nodes) (range_with_len 0 (length nodes))

-- the place is that of a table of nodes: of one node, or of a class
abbrev pub has_nodes : Place → Bool
has_nodes (place.Node n) = true
has_nodes (place.Nodes n) = true
has_nodes _ = false

-- the place is that of a command's table
abbrev pub is_command : Place → Bool
is_command (place.Command n) = true
is_command _ = false

-- the nodes of a table, by its place
abbrev pub nodes_at : (bits : ℕ) → Place → Members → List Node
nodes_at bits (place.Node n) ms = node_of bits ms ∷ []
nodes_at bits (place.Nodes n) ms = class_of bits ms
nodes_at bits _ ms = []

-- the nodes of a file, in order
unfoldable pub nodes_of : (bits : ℕ) → List Section → List Node
nodes_of bits ss = flat_map (λ s. nodes_at bits s.at s.members) ss

-- a node or a class has one of the keys of coordinates
abbrev pub is_placed_section : Section → Bool
is_placed_section s =
    has_nodes s.at && (is_some (data_at key.XUs s.members) || is_some (data_at key.YUs s.members) || is_some (data_at key.HeightUs s.members)
    || is_some (data_at key.SideUs s.members))

-- the coordinates of a table of nodes in microseconds, each 0 if its key is absent: those of its node, or the corner of the
-- places of a class
abbrev pub coordinates_at : Members → Coordinates
coordinates_at ms = record { x = number_at key.XUs ms; y = number_at key.YUs ms; height = number_at key.HeightUs ms }

-- where a node is that is drawn as far from the corner along an axis, in microseconds: not beyond the end of the axis
abbrev pub along_axis : (corner drawn : ℕ) → ℕ
along_axis corner drawn = min (corner + drawn) 500000000

-- the place of a node in the square of this side, by the number of its class and its own number there, which both count
-- from 0 and are far below 2^32
abbrev pub drawn_place : (seed class : ℕ) → (corner : Coordinates) → (side number : ℕ) → Coordinates
drawn_place seed class corner side number = record {
  x = along_axis corner.x (first_number seed (own_stream (number % 2 ^ 32) place_purpose) class (side + 1));
  y = along_axis corner.y (second_number seed (own_stream (number % 2 ^ 32) place_purpose) class (side + 1));
  height = corner.height;
}

-- the coordinates of the nodes of a class
abbrev pub places_of_class : (seed class : ℕ) → Members → List Coordinates
places_of_class seed class ms =
    map (drawn_place seed class (coordinates_at ms) (number_at key.SideUs ms)) (range_with_len 0 (number_at key.Count ms))

-- the coordinates of each node of a table, by its place; the places of classes are numbered from 1
abbrev pub places_at : (seed : ℕ) → Place → Members → List Coordinates
places_at seed (place.Node n) ms = coordinates_at ms ∷ []
places_at seed (place.Nodes n) ms = places_of_class seed (n - 1) ms
places_at seed _ ms = []

-- the coordinates of the nodes of a file, in order, if nodes have them
unfoldable pub coordinates_of : (seed : ℕ) → List Section → List Coordinates
coordinates_of seed ss = if list_any is_placed_section ss then flat_map (λ s. places_at seed s.at s.members) ss else []

-- the number, from n, of the first node of this name
abbrev pub index_from : ℕ → List ℕ → List Node → Option ℕ
index_from n name [] = None
index_from n name (x ∷ xs) = if bytes_eq name x.name then Some n else index_from (n + 1) name xs

-- the number, from 0, of the first node of this name; none if no node has the name
abbrev pub index_of : List ℕ → List Node → Option ℕ
index_of name nodes = index_from 0 name nodes

-- the number of the node that a key names
abbrev pub node_at : FileKey → List Node → Members → ℕ
node_at k nodes ms = unwrap_or (index_of (name_at k ms) nodes) 0

-- the operation of a command
abbrev pub operation_at : Members → Option Operation
operation_at ms = option_and_then operation_named (text_at key.Do ms)

-- what a command asks by its operation; a command without one is refused elsewhere, and counts as a lookup here
abbrev pub action_by : (bits : ℕ) → List Node → Members → Option Operation → Action
action_by bits nodes ms (Some operation.Join) = Join (node_at key.Via nodes ms)
action_by bits nodes ms (Some operation.Crash) = Crash
action_by bits nodes ms (Some operation.Leave) = Leave
action_by bits nodes ms _ = Lookup (unwrap_or (identifier_at bits key.Key ms) 0)

-- what a command asks its node to do, from its table; a command without an operation counts as a lookup here
abbrev pub action_of : (bits : ℕ) → List Node → Members → Action
action_of bits nodes ms = action_by bits nodes ms (operation_at ms)

-- a command from its table, its time in microseconds; a name that is no node's counts as node 0 here, and is refused
-- elsewhere
unfoldable pub command_of : (bits : ℕ) → List Node → Members → Command
command_of bits nodes ms = record { at = number_at key.AtUs ms; node = node_at key.Node nodes ms; action = action_of bits nodes ms }

-- the commands of a file, in order
unfoldable pub commands_of : (bits : ℕ) → List Node → List Section → List Command
commands_of bits nodes ss = map (λ s. command_of bits nodes s.members) (filter (λ s. is_command s.at) ss)

-- the span between the times at two keys, both included, in microseconds; an absent key counts as 0
abbrev pub span_of : FileKey → FileKey → Members → Span
span_of least greatest ms = record { least = number_at least ms; greatest = number_at greatest ms }

-- how long churn nodes live and are down, and how often they leave, if the file has `[churn]`; without `leave_ppm` no
-- life ends with a leave
unfoldable pub churn_of : Members → Option Churn
churn_of top =
    option_map
    (λ ms. record {
      life = span_of key.LifeMinUs key.LifeMaxUs ms;
      down = span_of key.DownMinUs key.DownMaxUs ms;
      leave = number_or 0 key.LeavePpm ms;
    })
    (option_and_then as_table (data_at key.Churn top))

-- the span of times in microseconds from one lookup that a node makes by itself to its next, if the file has
-- `[lookups]`
unfoldable pub lookups_of : Members → Option Span
lookups_of top = option_map (span_of key.GapMinUs key.GapMaxUs) (option_and_then as_table (data_at key.Lookups top))
