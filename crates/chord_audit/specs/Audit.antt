-- The facts of a ring at one time, from what each node knows.
use Rattle.std.specs.Prelude.{
  ◌≡◌,
  ◌<◌,
  slice_index_or,
  ℕ,
  ◌==◌,
  Bool,
  false,
  true,
  not,
  nat_lt,
  ◌&&◌,
  ◌||◌,
  List,
  [],
  ◌∷◌,
  Option,
  Some,
  None,
  count_by,
  find,
  is_none,
  option_and_then,
  zero,
  suc,
}
use Rattle.std.specs.List.{list_any, range_with_len}
use Rattle.chord_circle.specs.Circle.{between}
use Rattle.chord_scenario.specs.Setup.{Setup}
use Rattle.chord_scenario.specs.World.{node_count, ident_of}
use Rattle.chord_node.specs.declared.state.NodeState.{NodeState}
use Rattle.chord_node.specs.declared.state.Status.{Status}
use Rattle.chord_node.specs.declared.state.Status.TheVariants as status
use Rattle.chord_audit.specs.declared.audit_line.AuditLine.{AuditLine}

-- the numbers of the nodes
abbrev pub nodes : Setup → List ℕ
nodes sc = range_with_len 0 (node_count sc)

-- the status Member, of a node that has its place in a ring
abbrev pub is_member_status : Status → Bool
is_member_status status.Member = true
is_member_status _ = false

-- the node has the status Member: it is neither down nor still joining
abbrev pub is_member : NodeState → Bool
is_member s = is_member_status s.status

-- What follows is of a function from the nodes to their states.

-- the function gives the states of the list
abbrev pub AreStates : Setup → List NodeState → (ℕ → NodeState) → Type 0
AreStates sc states state = (n : ℕ) → n < node_count sc → slice_index_or states n (state n) ≡ state n

-- the first entry of a node's list that is a member
abbrev pub best_successor : (ℕ → NodeState) → ℕ → Option ℕ
best_successor state n = find (λ m. is_member (state m)) (state n).succ

-- whether the node is a member and has no best successor
abbrev pub is_dead : (ℕ → NodeState) → ℕ → Bool
is_dead state n = is_member (state n) && is_none (best_successor state n)

-- where this number of steps leads
abbrev pub after : (next : ℕ → Option ℕ) → (steps n : ℕ) → Option ℕ
after next zero n = Some n
after next (suc steps) n = option_and_then next (after next steps n)

-- whether the way led to the node
abbrev pub is_at : Option ℕ → ℕ → Bool
is_at None n = false
is_at (Some m) n = m == n

-- whether at least one step and at most this many lead back to the node
abbrev pub comes_back : (next : ℕ → Option ℕ) → (most n : ℕ) → Bool
comes_back next most n = list_any (λ steps. is_at (after next steps n) n) (range_with_len 1 most)

-- the number of nodes that are members: the fact `members` of an audit line
abbrev pub member_count : Setup → (ℕ → NodeState) → ℕ
member_count sc state = count_by (λ n. is_member (state n)) (nodes sc)

-- whether the node is a member that comes back to itself by best successors
abbrev pub is_on_ring : Setup → (ℕ → NodeState) → ℕ → Bool
is_on_ring sc state n = is_member (state n) && comes_back (best_successor state) (member_count sc state) n

-- whether node x lies between the nodes a and b, clockwise from a
abbrev pub lies_between : Setup → (a x b : ℕ) → Bool
lies_between sc a x b = between sc.bits (ident_of sc a) (ident_of sc x) (ident_of sc b)

-- whether x lies between a and the node that is found
abbrev pub lies_before : Setup → (a x : ℕ) → Option ℕ → Bool
lies_before sc a x None = false
lies_before sc a x (Some b) = lies_between sc a x b

-- whether x lies between a ring member and its best successor
abbrev pub is_skipped : Setup → (ℕ → NodeState) → (x : ℕ) → Bool
is_skipped sc state x = list_any (λ n. is_on_ring sc state n && lies_before sc n x (best_successor state n)) (nodes sc)

-- whether no ring member is skipped
abbrev pub is_ordered : Setup → (ℕ → NodeState) → Bool
is_ordered sc state = not (list_any (λ x. is_on_ring sc state x && is_skipped sc state x) (nodes sc))

-- whether x lies between two neighbours of a list that a leads
abbrev pub is_passed : Setup → (x a : ℕ) → List ℕ → Bool
is_passed sc x a [] = false
is_passed sc x a (b ∷ rest) = lies_between sc a x b || is_passed sc x b rest

-- whether x lies between two neighbours of a member's list, which the member leads
abbrev pub is_passed_over : Setup → (ℕ → NodeState) → (x : ℕ) → Bool
is_passed_over sc state x = list_any (λ n. is_member (state n) && is_passed sc x n (state n).succ) (nodes sc)

-- whether x is a member that no member's list skips
abbrev pub is_principal : Setup → (ℕ → NodeState) → (x : ℕ) → Bool
is_principal sc state x = is_member (state x) && not (is_passed_over sc state x)

-- the number of members whose successor list has no member in it: the fact `dead` of an audit line
abbrev pub dead_count : Setup → (ℕ → NodeState) → ℕ
dead_count sc state = count_by (is_dead state) (nodes sc)

-- the number of members that no member's successor list skips: the fact `principals` of an audit line
abbrev pub principal_count : Setup → (ℕ → NodeState) → ℕ
principal_count sc state = count_by (is_principal sc state) (nodes sc)

-- the audit line of a time
unfoldable pub audit_facts : Setup → (ℕ → NodeState) → (time : ℕ) → AuditLine
audit_facts sc state time = record {
  time = time;
  members = member_count sc state;
  dead = dead_count sc state;
  ring = count_by (is_on_ring sc state) (nodes sc);
  ordered = is_ordered sc state;
  principals = principal_count sc state;
  sufficient = nat_lt sc.list (principal_count sc state) && (dead_count sc state == 0);
}
