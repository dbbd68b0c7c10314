-- Tables that hold a fact of each node, and ranks of nodes.
use Rattle.std.specs.Prelude.{
  ◌≡◌,
  ◌↔◌,
  ℕ,
  ◌<◌,
  ◌≤◌,
  Bool,
  false,
  true,
  find,
  nat_lt,
  ◌&&◌,
  ◌||◌,
  List,
  [],
  ◌∷◌,
  Option,
  None,
  Some,
  IfSome,
  map,
  take,
  length,
  slice_index,
  slice_index_or,
  if◌then◌else◌,
}
use Rattle.std.specs.List.{All, list_any, range_with_len}
use Rattle.chord_scenario.specs.Setup.{Setup}
use Rattle.chord_scenario.specs.World.{node_count}
use Rattle.chord_node.specs.declared.state.NodeState.{NodeState}
use Rattle.chord_scenario.specs.Order.{AreRanks}
use Rattle.chord_scenario.specs.Range.{IsInRange}
use Rattle.chord_audit.specs.Audit.{after, is_member}
use Rattle.chord_audit.specs.declared.arcs.Arcs.{Arcs}
use Rattle.chord_audit.specs.declared.tables.Tables.{Tables}

-- the table marks node n; false if n is beyond the end of the table
abbrev pub is_marked : List Bool → ℕ → Bool
is_marked marks n = slice_index_or marks n false

-- the node, if any, to which a table leads from node n; none if n is beyond the end of the table
abbrev pub node_at : List (Option ℕ) → ℕ → Option ℕ
node_at table n = slice_index_or table n None

-- all nodes that the table names are below this number
abbrev pub LeadBelow : ℕ → List (Option ℕ) → Type 0
LeadBelow n table = All (λ way. IfSome way (λ m. m < n)) table

-- the table says where this number of steps by another table leads
pub record IsPower (steps : ℕ) (best table : List (Option ℕ)) : Type 0 where
  pub each : length table ≡ length best
  pub leads : (n : ℕ) → n < length best → node_at table n ≡ after (node_at best) steps n

-- a marked node leads to node n
abbrev pub IsLedTo : (best : List (Option ℕ)) → (marks : List Bool) → ℕ → Type 0
IsLedTo best marks n = (m : ℕ) × (is_marked marks m ≡ true) × (node_at best m ≡ Some n)

-- a marked node leads to each marked node
abbrev pub AreLed : (best : List (Option ℕ)) → (marks : List Bool) → Type 0
AreLed best marks = (n : ℕ) → is_marked marks n ≡ true → IsLedTo best marks n

-- whether k lies on the way from a up to b, which goes from the last rank on to the first
abbrev pub is_inside : (a k b : ℕ) → Bool
is_inside a k b = if nat_lt a b then nat_lt a k && nat_lt k b else nat_lt a k || nat_lt k b

-- whether rank k lies between the ranks of a and of the node that is found
abbrev pub is_inside_before : (ranks : List ℕ) → (k a : ℕ) → Option ℕ → Bool
is_inside_before ranks k a None = false
is_inside_before ranks k a (Some b) = is_inside (slice_index ranks a) k (slice_index ranks b)

-- whether rank k lies between the ranks of two neighbours of a list that a leads
abbrev pub is_inside_list : (ranks : List ℕ) → (k a : ℕ) → List ℕ → Bool
is_inside_list ranks k a [] = false
is_inside_list ranks k a (b ∷ rest) = is_inside (slice_index ranks a) k (slice_index ranks b) || is_inside_list ranks k b rest

-- whether the rank of a node is marked
abbrev pub is_marked_rank : (ranks : List ℕ) → (marks : List Bool) → ℕ → Bool
is_marked_rank ranks marks n = is_marked marks (slice_index ranks n)

-- the successor list of a node
abbrev pub list_of : List NodeState → ℕ → List ℕ
list_of states n = slice_index_or (map (λ s. s.succ) states) n []

-- whether rank k lies between the ranks of a marked node n and of the node that it leads to
abbrev pub is_skipping : (ranks : List ℕ) → (marks : List Bool) → (best : List (Option ℕ)) → (k n : ℕ) → Bool
is_skipping ranks marks best k n = is_marked marks n && is_inside_before ranks k n (node_at best n)

-- rank k lies between the ranks of some marked node and of the node that it leads to
abbrev pub is_skipped_rank : (ranks : List ℕ) → (marks : List Bool) → (best : List (Option ℕ)) → (k : ℕ) → Bool
is_skipped_rank ranks marks best k = list_any (is_skipping ranks marks best k) (range_with_len 0 (length ranks))

-- whether rank k lies between the ranks of two neighbours of the list of a marked node n, which the node leads
abbrev pub is_passing : (ranks : List ℕ) → (marks : List Bool) → List NodeState → (k n : ℕ) → Bool
is_passing ranks marks states k n = is_marked marks n && is_inside_list ranks k n (list_of states n)

-- rank k lies between the ranks of two neighbours in the list of some marked node, with the node itself at the front
abbrev pub is_passed_rank : (ranks : List ℕ) → (marks : List Bool) → List NodeState → (k : ℕ) → Bool
is_passed_rank ranks marks states k = list_any (is_passing ranks marks states k) (range_with_len 0 (length ranks))

-- whether ways cover rank k: those from the start end at `first`, and those from each rank on at its entry of `far`
abbrev pub reaches : (first : ℕ) → (far : List ℕ) → (k : ℕ) → Bool
reaches first far k = nat_lt k first || list_any (λ end. nat_lt k end) (take k far)

-- one of the ways that were added leads past rank k, without beginning or ending there
abbrev pub covers : Arcs → (k : ℕ) → Bool
covers arcs k = reaches arcs.first arcs.far.items k

-- what the tables of an audit hold of each node and of each rank
pub record AreTables (sc : Setup) (states : List NodeState) (members : List Bool) (best : List (Option ℕ)) (ring : List Bool) (ranks : List ℕ)
    (skipped passed : List Bool) : Type 0 where
  pub range : IsInRange sc
  pub each : length states ≡ node_count sc
  pub succ : All (λ s. All (λ m. m < node_count sc) s.succ) states
  pub members_are : members ≡ map is_member states
  pub best_are : best ≡ map (λ s. find (is_marked members) s.succ) states
  pub ring_each : length ring ≡ length best
  pub ring_are : (n : ℕ) → n < length best → (is_marked ring n ≡ true) ↔ ((steps : ℕ) × (1 ≤ steps) × (after (node_at best) steps n ≡ Some n))
  pub ranks_are : AreRanks sc ranks
  pub skipped_are : (k : ℕ) → k < length ranks → is_marked skipped k ≡ is_skipped_rank ranks ring best k
  pub skipped_each : length skipped ≡ length ranks
  pub passed_each : length passed ≡ length ranks
  pub passed_are : (k : ℕ) → k < length ranks → is_marked passed k ≡ is_passed_rank ranks members states k

-- the tables hold what those of an audit hold of each node and of each rank
abbrev pub HoldFacts : Setup → List NodeState → Tables → Type 0
HoldFacts sc states t = AreTables sc states t.members.items t.best.items t.ring.items t.ranks.now t.skipped.items t.passed.items
