-- The tables of a scenario file: the keys of each in order, what each may hold and when it is required.
use Rattle.std.specs.Prelude.{ℕ, Bool, List, [], ◌∷◌, ◌++◌, ◌==◌, ◌||◌, codes, if◌then◌else◌}
use Rattle.chord_scenario.specs.declared.key.Place.{Place}
use Rattle.chord_scenario.specs.declared.key.Place.TheVariants as place
use Rattle.chord_scenario.specs.declared.key.FileKey.{FileKey}
use Rattle.chord_scenario.specs.declared.key.FileKey.TheVariants as key
use Rattle.chord_scenario.specs.declared.key.Form.{Form}
use Rattle.chord_scenario.specs.declared.key.Form.TheVariants.{Whole, Profile, Text, Operation, Boolean, Identifier, Table, Tables}
use Rattle.chord_scenario.specs.declared.key.Presence.TheVariants.{Required, Optional, WithoutClasses, ForChurn, ForCoordinates, ForJoin, ForLookup}
use Rattle.chord_scenario.specs.declared.key.Entry.{Entry}

-- a key as the file writes it
abbrev pub key_name : FileKey → List ℕ
key_name key.Profile = codes "profile"
key_name key.Bits = codes "bits"
key_name key.List = codes "list"
key_name key.Seed = codes "seed"
key_name key.DurationUs = codes "duration_us"
key_name key.WindowUs = codes "window_us"
key_name key.LatencyUs = codes "latency_us"
key_name key.TimeoutUs = codes "timeout_us"
key_name key.AuditUs = codes "audit_us"
key_name key.StabilizeUs = codes "stabilize_us"
key_name key.FingerUs = codes "finger_us"
key_name key.JitterUs = codes "jitter_us"
key_name key.MaxEvents = codes "max_events"
key_name key.LossPpm = codes "loss_ppm"
key_name key.SpreadUs = codes "spread_us"
key_name key.Retries = codes "retries"
key_name key.JoinPauseUs = codes "join_pause_us"
key_name key.JoinForever = codes "join_forever"
key_name key.CheckUs = codes "check_us"
key_name key.Detail = codes "detail"
key_name key.ListRoutes = codes "list_routes"
key_name key.GoesOn = codes "goes_on"
key_name key.AskOwner = codes "ask_owner"
key_name key.LookupTimeouts = codes "lookup_timeouts"
key_name key.DropSilent = codes "drop_silent"
key_name key.SkipNear = codes "skip_near"
key_name key.RandomStart = codes "random_start"
key_name key.StabilizeJitterUs = codes "stabilize_jitter_us"
key_name key.FingerJitterUs = codes "finger_jitter_us"
key_name key.CheckJitterUs = codes "check_jitter_us"
key_name key.CleanLists = codes "clean_lists"
key_name key.JoinAsks = codes "join_asks"
key_name key.CreateAlone = codes "create_alone"
key_name key.Churn = codes "churn"
key_name key.Lookups = codes "lookups"
key_name key.Node = codes "node"
key_name key.Nodes = codes "nodes"
key_name key.Command = codes "command"
key_name key.LifeMinUs = codes "life_min_us"
key_name key.LifeMaxUs = codes "life_max_us"
key_name key.DownMinUs = codes "down_min_us"
key_name key.DownMaxUs = codes "down_max_us"
key_name key.LeavePpm = codes "leave_ppm"
key_name key.GapMinUs = codes "gap_min_us"
key_name key.GapMaxUs = codes "gap_max_us"
key_name key.Name = codes "name"
key_name key.Id = codes "id"
key_name key.Initial = codes "initial"
key_name key.Bootstrap = codes "bootstrap"
key_name key.XUs = codes "x_us"
key_name key.YUs = codes "y_us"
key_name key.HeightUs = codes "height_us"
key_name key.SideUs = codes "side_us"
key_name key.Count = codes "count"
key_name key.Prefix = codes "prefix"
key_name key.AtUs = codes "at_us"
key_name key.Do = codes "do"
key_name key.Via = codes "via"
key_name key.Key = codes "key"

-- a key that each table of its kind must have, with what it may hold
abbrev pub required : FileKey → Form → Entry
required k form = record { 0 = k; 1 = form; 2 = Required }

-- a key that a table may lack, with what it may hold
abbrev pub optional : FileKey → Form → Entry
optional k form = record { 0 = k; 1 = form; 2 = Optional }

-- a number of microseconds that is at least 1
abbrev pub interval : Form
interval = Whole 1 1000000000

-- the keys at top, by the most bits of a circle, the most entries of a successor list, the most events of a run, the keys
-- that only this profile has, and those that hold the nodes
abbrev pub top_keys_of : (most_bits most_listed most_events : ℕ) → (own nodes : List Entry) → List Entry
top_keys_of most_bits most_listed most_events own nodes =
    required key.Profile Profile
    ∷ required key.Bits (Whole 3 most_bits)
    ∷ required key.List (Whole 1 most_listed)
    ∷ required key.Seed (Whole 0 9223372036854775807)
    ∷ required key.DurationUs (Whole 1 1000000000000)
    ∷ required key.WindowUs interval
    ∷ required key.LatencyUs interval
    ∷ required key.TimeoutUs interval
    ∷ required key.AuditUs interval
    ∷ required key.StabilizeUs interval
    ∷ required key.FingerUs interval
    ∷ optional key.JitterUs (Whole 0 1000000000)
    ∷ optional key.MaxEvents (Whole 1 most_events)
    ∷ own
    ++ record { 0 = key.Churn; 1 = Table; 2 = ForChurn }
    ∷ optional key.Lookups Table
    ∷ nodes
    ++ optional key.Command (Tables 0 100000)
    ∷ []

-- the keys that the second profile adds, with those that another one has besides
abbrev pub network_keys_and : List Entry → List Entry
network_keys_and more = optional key.LossPpm (Whole 0 1000000) ∷ optional key.SpreadUs (Whole 0 1000000000) ∷ more

-- the keys of the top table that only the extended profile has
abbrev pub extended_keys : List Entry
extended_keys =
    optional key.Retries (Whole 0 3)
    ∷ optional key.JoinPauseUs (Whole 0 1000000000)
    ∷ optional key.JoinForever Boolean
    ∷ optional key.CheckUs (Whole 0 1000000000)
    ∷ optional key.Detail Boolean
    ∷ optional key.ListRoutes Boolean
    ∷ optional key.GoesOn Boolean
    ∷ optional key.AskOwner Boolean
    ∷ optional key.LookupTimeouts (Whole 0 64)
    ∷ optional key.DropSilent Boolean
    ∷ optional key.SkipNear Boolean
    ∷ optional key.RandomStart Boolean
    ∷ optional key.StabilizeJitterUs (Whole 0 1000000000)
    ∷ optional key.FingerJitterUs (Whole 0 1000000000)
    ∷ optional key.CheckJitterUs (Whole 0 1000000000)
    ∷ optional key.CleanLists Boolean
    ∷ optional key.JoinAsks Boolean
    ∷ optional key.CreateAlone Boolean
    ∷ []

-- the key that holds the nodes, by the most nodes of a file
abbrev pub nodes_up_to : (most : ℕ) → List Entry
nodes_up_to most = required key.Node (Tables 2 most) ∷ []

-- the keys that hold the nodes and the classes of nodes: a file with classes need not have other nodes
abbrev pub nodes_and_classes : List Entry
nodes_and_classes = record { 0 = key.Node; 1 = Tables 2 65536; 2 = WithoutClasses } ∷ optional key.Nodes (Tables 1 16) ∷ []

-- the keys of the top table by profile: the limits of bits, successor lists, nodes and events differ, and the later
-- profiles have more keys
abbrev pub top_keys : (profile : ℕ) → List Entry
top_keys profile =
    if profile == 4 then top_keys_of 128 32 100000000000 (network_keys_and extended_keys) nodes_and_classes
    else if profile == 2 then top_keys_of 128 16 50000000 (network_keys_and []) (nodes_up_to 4096)
    else top_keys_of 64 16 50000000 [] (nodes_up_to 512)

-- the keys of `[churn]`: the bounds of lives and of down times, and in the extended profile the chance of a leave
abbrev pub churn_keys : (profile : ℕ) → List Entry
churn_keys profile =
    required key.LifeMinUs interval
    ∷ required key.LifeMaxUs interval
    ∷ required key.DownMinUs interval
    ∷ required key.DownMaxUs interval
    ∷ (if profile == 4 then optional key.LeavePpm (Whole 0 1000000) ∷ [] else [])

-- the keys of `[lookups]`: the bounds of the time from one lookup of a node to its next, in every profile
abbrev pub lookups_keys : List Entry
lookups_keys = required key.GapMinUs interval ∷ required key.GapMaxUs interval ∷ []

-- whether identifiers have up to 128 bits
abbrev pub is_wide : (profile : ℕ) → Bool
is_wide profile = profile == 2 || profile == 4

-- the most digits that an identifier is written in
abbrev pub most_digits : (profile : ℕ) → ℕ
most_digits profile = if is_wide profile then 32 else 16

-- the keys of coordinates: if one node has one of them, all nodes have the first two
abbrev pub coordinate_keys : List Entry
coordinate_keys =
    record { 0 = key.XUs; 1 = Whole 0 500000000; 2 = ForCoordinates }
    ∷ record { 0 = key.YUs; 1 = Whole 0 500000000; 2 = ForCoordinates }
    ∷ optional key.HeightUs (Whole 0 100000000)
    ∷ []

-- the keys of a node's table; only in the extended profile may a node be a bootstrap node or have coordinates
abbrev pub node_keys : (profile : ℕ) → List Entry
node_keys profile =
    required key.Name Text
    ∷ optional key.Id (Identifier (most_digits profile))
    ∷ optional key.Initial Boolean
    ∷ optional key.Churn Boolean
    ∷ (if profile == 4 then optional key.Bootstrap Boolean ∷ coordinate_keys else [])

-- the keys of a class of nodes, which only the extended profile has; `initial` and those after it are of each of its nodes
abbrev pub class_keys : (profile : ℕ) → List Entry
class_keys profile =
    if profile == 4
    then required key.Count (Whole 2 1048576)
    ∷ required key.Prefix Text
    ∷ optional key.Initial Boolean
    ∷ optional key.Churn Boolean
    ∷ optional key.Bootstrap Boolean
    ∷ coordinate_keys
    ++ optional key.SideUs (Whole 0 500000000) ∷ []
    else []

-- the keys of a command's table; only a join must have `via`, and only a lookup `key`
abbrev pub command_keys : (profile : ℕ) → List Entry
command_keys profile =
    required key.AtUs (Whole 0 1000000000000)
    ∷ required key.Do (Operation (profile == 4))
    ∷ required key.Node Text
    ∷ record { 0 = key.Via; 1 = Text; 2 = ForJoin }
    ∷ record { 0 = key.Key; 1 = Identifier (most_digits profile); 2 = ForLookup }
    ∷ []

-- the keys of the table at a place; a profile other than the numbers 2 and 4 has the keys of the first
abbrev pub keys_at : (profile : ℕ) → Place → List Entry
keys_at profile place.Top = top_keys profile
keys_at profile place.Churn = churn_keys profile
keys_at profile place.Lookups = lookups_keys
keys_at profile (place.Node n) = node_keys profile
keys_at profile (place.Nodes n) = class_keys profile
keys_at profile (place.Command n) = command_keys profile
keys_at profile (place.Row n) = []
