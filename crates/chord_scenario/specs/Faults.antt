-- The sixteen faults of a scenario: each is one question about both texts as a whole, and the first fault counts.
use Rattle.std.specs.Prelude.{
  ℕ,
  ◌+◌,
  Bool,
  false,
  ◌&&◌,
  ◌||◌,
  not,
  ◌==◌,
  List,
  [],
  ◌∷◌,
  codes,
  length,
  bytes_eq,
  nat_le,
  nat_lt,
  count_by,
  Option,
  Some,
  None,
  is_none,
  option_map,
  option_and_then,
  slice_get,
  unwrap_or,
  if◌then◌else◌,
}
use Rattle.std.specs.Option.{option_map_or, option_or}
use Rattle.std.specs.List.{list_all}
use Rattle.std.specs.Char.{is_ascii_alphanumeric}
use Rattle.std.specs.Str.{is_utf8}
use Rattle.toml.specs.Data.{Members}
use Rattle.toml.specs.Parse.{parse_document}
use Rattle.chord_scenario.specs.declared.key.FileKey.TheVariants as key
use Rattle.chord_scenario.specs.declared.setting.Coordinates.{Coordinates}
use Rattle.chord_scenario.specs.declared.setting.Node.{Node}
use Rattle.chord_scenario.specs.declared.fault.ScenarioFault.{ScenarioFault}
use Rattle.chord_scenario.specs.declared.fault.ScenarioFault.TheVariants.{
  NotToml,
  BadName,
  SameName,
  SameId,
  UnknownNode,
  TooFewInitial,
  TimeAfterEnd,
  BadLatencyRow,
  SelfLink,
  SameLinkTwice,
  LatencyBelowWindow,
  RowsAndCoordinates,
}
use Rattle.chord_scenario.specs.declared.key.Place.{Place}
use Rattle.chord_scenario.specs.declared.key.Place.TheVariants as place
use Rattle.chord_scenario.specs.Operations.{is_join}
use Rattle.chord_scenario.specs.Values.{number_at, text_at}
use Rattle.chord_scenario.specs.Sections.{Section, sections}
use Rattle.chord_scenario.specs.Settings.{is_command, operation_at, name_at, index_of, nodes_of, coordinates_of}
use Rattle.chord_scenario.specs.Rows.{Row, link_of, is_bad_row, name_one_pair, row_latency, rows_of}
use Rattle.chord_scenario.specs.Search.{first_some, first_repeat, first_meeting, section_fault, row_fault}
use Rattle.chord_scenario.specs.KeyFaults.{unknown_key, missing_key, wrong_type, out_of_range}

-- a byte that a node's name may have: a letter, a digit, `.`, `_` or `-`
abbrev pub is_name_byte : ℕ → Bool
is_name_byte b = is_ascii_alphanumeric b || b == 46 || b == 95 || b == 45

-- the bytes are a name that a node may have, of 1 to 32 letters, digits, `.`, `_` and `-`; `audit` is not one, since
-- the audit lines of a trace have this word in place of a name
unfoldable pub is_name : List ℕ → Bool
is_name name = nat_le 1 (length name) && nat_le (length name) 32 && list_all is_name_byte name && not (bytes_eq name (codes "audit"))

-- the bytes are a prefix that the names of a class may have, of 1 to 25 letters, digits, `.`, `_` and `-`: with up to
-- seven digits after them they are a name
unfoldable pub is_prefix : List ℕ → Bool
is_prefix prefix = nat_le 1 (length prefix) && nat_le (length prefix) 25 && list_all is_name_byte prefix

-- the table at this place is that of a node whose name is not allowed, or of a class whose prefix is not
abbrev pub has_bad_name : Place → Members → Bool
has_bad_name (place.Node n) ms = not (is_name (name_at key.Name ms))
has_bad_name (place.Nodes n) ms = not (is_prefix (name_at key.Prefix ms))
has_bad_name _ ms = false

-- the fault `BadName` at the first node whose name is not allowed, or the first class whose prefix is not
unfoldable pub bad_name : List Section → Option ScenarioFault
bad_name ss = section_fault BadName (λ s. has_bad_name s.at s.members) ss

-- the fault `SameName` if a node has the name of an earlier one: it has the number of the first such node, after that
-- of the first node with its name, both from 1
unfoldable pub same_name : List Node → Option ScenarioFault
same_name nodes = option_map (λ r. SameName r.first_number r.second_number) (first_repeat (λ x y. bytes_eq x.name y.name) [] nodes)

-- the fault `SameId` if a node has the identifier of an earlier one: it names the first such node, after the first node
-- with its identifier
unfoldable pub same_id : List Node → Option ScenarioFault
same_id nodes = option_map (λ r. SameId r.first.name r.second.name) (first_repeat (λ x y. x.ident == y.ident) [] nodes)

-- no node has this name
abbrev pub is_unknown : List Node → List ℕ → Bool
is_unknown nodes name = is_none (index_of name nodes)

-- a command's `node`, or its `via` if it has one, is not the name of a node
abbrev pub command_names_unknown : List Node → Section → Bool
command_names_unknown nodes s =
    is_command s.at
    && (is_unknown nodes (name_at key.Node s.members) || option_map_or (is_unknown nodes) (text_at key.Via s.members) false)

-- a row of three fields has a name that is not that of a node
abbrev pub row_names_unknown : List Node → Row → Bool
row_names_unknown nodes r = option_map_or (λ l. is_unknown nodes l.first || is_unknown nodes l.second) (link_of r) false

-- the fault `UnknownNode` at the first command with a name that is no node's, or if there is none, at the first row
-- with such a name
unfoldable pub unknown_node : List Node → List Section → List Row → Option ScenarioFault
unknown_node nodes ss rows =
    option_or (section_fault UnknownNode (command_names_unknown nodes) ss) (row_fault UnknownNode (row_names_unknown nodes) rows)

-- the fault `TooFewInitial` if fewer nodes are initial than a successor list and its owner; none in the extended profile
unfoldable pub too_few_initial : (extended : Bool) → ℕ → List Node → Option ScenarioFault
too_few_initial extended list nodes =
    if not extended && nat_lt (count_by (λ x. x.initial) nodes) (list + 1) then Some TooFewInitial else None

-- the fault `TimeAfterEnd` at the first command that is not before the end of the run
unfoldable pub time_after_end : ℕ → List Section → Option ScenarioFault
time_after_end duration ss = section_fault TimeAfterEnd (λ s. is_command s.at && nat_le duration (number_at key.AtUs s.members)) ss

-- the fault `BadLatencyRow` at the first row that does not have three fields, or has no latency in the third
unfoldable pub bad_latency_row : List Row → Option ScenarioFault
bad_latency_row rows = row_fault BadLatencyRow is_bad_row rows

-- the table is that of a join of a node through itself
abbrev pub joins_itself : Section → Bool
joins_itself s =
    is_command s.at && is_join (operation_at s.members)
    && bytes_eq (name_at key.Node s.members) (name_at key.Via s.members)

-- a row of three fields has one name twice; rows are for two different nodes
abbrev pub row_joins_itself : Row → Bool
row_joins_itself r = option_map_or (λ l. bytes_eq l.first l.second) (link_of r) false

-- the fault `SelfLink` at the first join of a node through itself (no fault in the extended profile, in which it makes
-- a ring), or if there is none, at the first row that names one node twice
unfoldable pub self_link : (extended : Bool) → List Section → List Row → Option ScenarioFault
self_link extended ss rows =
    option_or (if extended then None else section_fault SelfLink joins_itself ss) (row_fault SelfLink row_joins_itself rows)

-- the fault `SameLinkTwice` at the first row that names the pair of an earlier row
unfoldable pub same_link_twice : List Row → Option ScenarioFault
same_link_twice rows = option_map (λ r. SameLinkTwice (place.Row r.second_number)) (first_repeat name_one_pair [] rows)

-- the latency of two nodes by the rows, or else the default
abbrev pub latency_by_rows : ℕ → List Row → Node → Node → ℕ
latency_by_rows default rows x y = unwrap_or (row_latency x.name y.name rows) default

-- the fault `LatencyBelowWindow` if the latency of two nodes, by the rows or else the default, is below the window: it
-- names the pair with the earliest first node, then the earliest second one
unfoldable pub latency_below_window : ℕ → ℕ → List Node → List Row → Option ScenarioFault
latency_below_window window default nodes rows =
    option_map (λ p. LatencyBelowWindow p.0.name p.1.name)
    (first_meeting (λ x y. nat_lt (latency_by_rows default rows x y) window) nodes)

-- of a node and of a later one, each as its number and its height: the lower one, and the first if both are as low
abbrev pub lower : ℕ × ℕ → Option (ℕ × ℕ) → ℕ × ℕ
lower one None = one
lower one (Some other) = if nat_lt other.1 one.1 then other else one

-- the number, from n, and the height of the first of the lowest nodes, without the node `left_out`
abbrev pub lowest_from : (left_out n : ℕ) → List Coordinates → Option (ℕ × ℕ)
lowest_from left_out n [] = None
lowest_from left_out n (c ∷ cs) =
    let later = lowest_from left_out (n + 1) cs in if n == left_out then later else Some (lower (n, c.height) later)

-- the number and the height of the lowest node, the first one if several are as low; none if there is no node. The
-- number that is left out is that of no node
abbrev pub lowest : List Coordinates → Option (ℕ × ℕ)
lowest coordinates = lowest_from (length coordinates) 0 coordinates

-- the number and the height of the lowest of the other nodes, the first one if several are as low; none if there is no
-- other node
abbrev pub next_lowest : ℕ × ℕ → List Coordinates → Option (ℕ × ℕ)
next_lowest one coordinates = lowest_from one.0 0 coordinates

-- the name of the node of this number, from 0, and an empty name if there is no such node
abbrev pub name_in : List Node → ℕ → List ℕ
name_in nodes i = unwrap_or (option_map (λ n. n.name) (slice_get nodes i)) []

-- the fault `LatencyBelowWindow` for these two nodes, if their heights add up to less than the window
abbrev pub low_pair : ℕ → List Node → ℕ × ℕ → ℕ × ℕ → Option ScenarioFault
low_pair window nodes one other =
    if nat_lt (one.1 + other.1) window then Some (LatencyBelowWindow (name_in nodes one.0) (name_in nodes other.0)) else None

-- the fault `LatencyBelowWindow` for the two lowest nodes, if their heights add up to less than the window, wherever
-- they are; none if fewer than two nodes have coordinates
unfoldable pub heights_below_window : ℕ → List Node → List Coordinates → Option ScenarioFault
heights_below_window window nodes coordinates =
    option_and_then (λ one. option_and_then (low_pair window nodes one) (next_lowest one coordinates)) (lowest coordinates)

-- two nodes are nearer than the window is long, by their heights or by the rows
unfoldable pub below_window : ℕ → ℕ → List Node → List Coordinates → List Row → Option ScenarioFault
below_window window default nodes coordinates rows =
    if length coordinates == 0 then latency_below_window window default nodes rows else heights_below_window window nodes coordinates

-- there are coordinates and rows
unfoldable pub rows_and_coordinates : List Coordinates → List Row → Option ScenarioFault
rows_and_coordinates coordinates rows = if length coordinates == 0 || length rows == 0 then None else Some RowsAndCoordinates

-- the questions of a file and of the rows of a latency file, in their order
abbrev pub questions : Members → List Row → List (Option ScenarioFault)
questions top rows =
    let profile = number_at key.Profile top in
    let bits = number_at key.Bits top in
    let ss = sections top in
    let nodes = nodes_of bits ss in
    unknown_key profile ss
    ∷ missing_key profile ss
    ∷ wrong_type profile ss
    ∷ out_of_range profile bits ss
    ∷ bad_name ss
    ∷ same_name nodes
    ∷ same_id nodes
    ∷ unknown_node nodes ss rows
    ∷ too_few_initial (profile == 4) (number_at key.List top) nodes
    ∷ time_after_end (number_at key.DurationUs top) ss
    ∷ bad_latency_row rows
    ∷ self_link (profile == 4) ss rows
    ∷ same_link_twice rows
    ∷ below_window (number_at key.WindowUs top) (number_at key.LatencyUs top) nodes (coordinates_of (number_at key.Seed top) ss) rows
    ∷ rows_and_coordinates (coordinates_of (number_at key.Seed top) ss) rows
    ∷ []

-- the first fault
abbrev pub first_answer : List (Option ScenarioFault) → Option ScenarioFault
first_answer = first_some (λ answer. answer)

-- the fault of a file and rows, if they have one
unfoldable pub file_fault : Members → List Row → Option ScenarioFault
file_fault top rows = first_answer (questions top rows)

-- the table that a text is, if it is text and a TOML document
unfoldable pub document : List ℕ → Option Members
document text = if is_utf8 text then parse_document text else None

-- the fault of two texts, if they have one: whether the first is a TOML document comes before the other questions
unfoldable pub scenario_fault : List ℕ → List ℕ → Option ScenarioFault
scenario_fault toml csv = option_map_or (λ top. file_fault top (rows_of csv)) (document toml) (Some NotToml)
