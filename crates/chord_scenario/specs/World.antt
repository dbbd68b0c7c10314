-- What a scenario says of its nodes.
use Rattle.std.specs.Prelude.{ℕ, ◌==◌, ◌+◌, ◌*◌, Bool, false, List, [], length, map, slice_get, slice_index, Option, option_map, option_and_then, unwrap_or, if◌then◌else◌}
use Rattle.chord_scenario.specs.Distances.{latency_by_coordinates}
use Rattle.chord_scenario.specs.Setup.{Setup}

-- the number of nodes
abbrev pub node_count : Setup → ℕ
node_count sc = length sc.nodes

-- the bytes of the name of node i
unfoldable pub name_of : Setup → ℕ → List ℕ
name_of sc i = unwrap_or (option_map (λ n. n.name) (slice_get sc.nodes i)) []

-- the place of node i on the circle
unfoldable pub ident_of : Setup → ℕ → ℕ
ident_of sc i = slice_index (map (λ n. n.ident) sc.nodes) i

-- node i is a member of the ring at the start
unfoldable pub is_initial : Setup → ℕ → Bool
is_initial sc i = unwrap_or (option_map (λ n. n.initial) (slice_get sc.nodes i)) false

-- node i goes down and rises by itself
unfoldable pub is_churn_node : Setup → ℕ → Bool
is_churn_node sc i = unwrap_or (option_map (λ n. n.churn) (slice_get sc.nodes i)) false

-- the latency of two different nodes without coordinates: that of the row that names them, or that of the scenario
abbrev pub latency_between : Setup → (from to : ℕ) → ℕ
latency_between sc from to =
    let given = slice_index sc.latencies (from * length sc.nodes + to) in
    if given == 0 then sc.latency else given

-- the latency by the coordinates of two nodes, if nodes have them
abbrev pub latency_by_place : Setup → (from to : ℕ) → Option ℕ
latency_by_place sc from to =
    option_and_then (λ here. option_map (latency_by_coordinates here) (slice_get sc.coordinates to)) (slice_get sc.coordinates from)

-- the latency of a message in microseconds: 1 to the node itself
unfoldable pub latency : Setup → (from to : ℕ) → ℕ
latency sc from to = if from == to then 1 else unwrap_or (latency_by_place sc from to) (latency_between sc from to)
