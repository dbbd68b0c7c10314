-- The states that a run starts with: the nodes that are members at the start know the ring, all others are down.
use Rattle.std.specs.Prelude.{ℕ, ◌==◌, ◌-◌, ◌^◌, not, nat_le, nat_lt, List, [], ◌∷◌, None, Some, filter, find, length, map, slice_get, take, unwrap_or, if◌then◌else◌}
use Rattle.std.specs.List.{range_with_len}
use Rattle.std.specs.Option.{option_or}
use Rattle.chord_circle.specs.Circle.{distance}
use Rattle.chord_scenario.specs.declared.scenario.Scenario.{Scenario}
use Rattle.chord_scenario.specs.Start.{initial_nodes, timers}
use Rattle.chord_scenario.specs.World.{ident_of, is_initial, node_count}
use Rattle.chord_node.specs.Bootstraps.{first_bootstrap}
use Rattle.chord_node.specs.Rotation.{first_looked_up}
use Rattle.chord_node.specs.declared.state.NodeState.{NodeState}
use Rattle.chord_node.specs.declared.state.Status.TheVariants as status

-- the list with one more element, which is put before the first one of greater measure, and so after those of equal
-- measure
abbrev pub put_by : (ℕ → ℕ) → ℕ → List ℕ → List ℕ
put_by measure x [] = x ∷ []
put_by measure x (y ∷ ys) = if nat_lt (measure x) (measure y) then x ∷ (y ∷ ys) else y ∷ put_by measure x ys

-- the elements in the order of the measure, the least first; those of the same measure come in reverse order
abbrev pub sorted_by : (ℕ → ℕ) → List ℕ → List ℕ
sorted_by measure [] = []
sorted_by measure (x ∷ xs) = put_by measure x (sorted_by measure xs)

-- the clockwise distance of node x from node n
abbrev pub way : Scenario → (n x : ℕ) → ℕ
way sc n x = distance sc.bits (ident_of sc n) (ident_of sc x)

-- the other nodes that are members at the start, in the order of the file
unfoldable pub others : Scenario → (n : ℕ) → List ℕ
others sc n = filter (λ x. not (x == n)) (initial_nodes sc)

-- the other nodes that are members at the start, in the order in which they are met clockwise from node n
unfoldable pub clockwise : Scenario → (n : ℕ) → List ℕ
clockwise sc n = sorted_by (way sc n) (others sc n)

-- the first of the nodes met that is at this distance from node n or farther, or n itself if there is none
abbrev pub first_at : Scenario → (n least : ℕ) → List ℕ → ℕ
first_at sc n least met = unwrap_or (find (λ x. nat_le least (way sc n x)) met) n

-- finger i of node n at the start of a run: the first member met at a distance of 2 ^ (i - 1) or more, or n itself if
-- there is none; this is the successor of the finger's start, defined without the start
abbrev pub finger : Scenario → (n i : ℕ) → ℕ
finger sc n i = first_at sc n (2 ^ (i - 1)) (clockwise sc n)

-- the node through which a member of the ring at the start would join: the first bootstrap node, or else the first other
-- member, or else itself
abbrev pub first_via : Scenario → (n : ℕ) → ℕ
first_via sc n = unwrap_or (option_or (first_bootstrap sc n) (slice_get (others sc n) 0)) n

-- the first member that is met clockwise from node n, which is its first successor; n itself if it is the only member
abbrev pub first_met : Scenario → (n : ℕ) → ℕ
first_met sc n = unwrap_or (slice_get (clockwise sc n) 0) n

-- the last member that is met clockwise from node n, which is its predecessor; n itself if it is the only member
abbrev pub last_met : Scenario → (n : ℕ) → ℕ
last_met sc n = unwrap_or (slice_get (clockwise sc n) (length (clockwise sc n) - 1)) n

-- a list, or one of node n alone if that is empty
abbrev pub or_itself : (n : ℕ) → List ℕ → List ℕ
or_itself n [] = n ∷ []
or_itself n xs = xs

-- a member of the ring at the start: its timers are set, and it knows its neighbours and fingers
unfoldable pub first_member : Scenario → (n : ℕ) → NodeState
first_member sc n = record {
  me = n;
  status = status.Member;
  epoch = 1;
  via = Some (first_via sc n);
  prdc = Some (last_met sc n);
  succ = or_itself n (take sc.list (clockwise sc n));
  fingers = map (finger sc n) (range_with_len 2 (sc.bits - 1));
  next_finger = first_looked_up sc n (Some (first_met sc n));
  calls = [];
  lookups = [];
  join = None;
  place = length (timers sc n);
  count = length (timers sc n);
}

-- a node that has not come up yet
abbrev pub never_up : (n : ℕ) → NodeState
never_up n = record {
  me = n;
  status = status.Down;
  epoch = 0;
  via = None;
  prdc = None;
  succ = [];
  fingers = [];
  next_finger = 2;
  calls = [];
  lookups = [];
  join = None;
  place = 0;
  count = 0;
}

-- the state of node n at the start
unfoldable pub initial_state : Scenario → (n : ℕ) → NodeState
initial_state sc n = if is_initial sc n then first_member sc n else never_up n

-- the states of all nodes at the start
unfoldable pub initial_ring : Scenario → List NodeState
initial_ring sc = map (initial_state sc) (range_with_len 0 (node_count sc))
