-- What a member knows after it has dropped a silent node.
use Rattle.std.proofs.Common.{◌≡◌, ◌==◌, ◌&&◌, ℕ, ◌<◌, ◌≤◌, Bool, true, false, not, List, [], ◌∷◌, ◌++◌, ◌-◌, drop, length, length-append, map, replicate, suc, take, Option, Some, None, arith, refl, subst}
use Rattle.std.proofs.lemmas.List.{length-drop, length-map, length-take}
use Rattle.std.proofs.lemmas.List.Sums.{count_by-le-length, length-filter}
use Rattle.std.proofs.lemmas.List.Elements.{All-append, All-cons, All-drop, All-filter, All-head, All-replicate, All-tail, All-take}
use Rattle.std.proofs.lemmas.Option.{slice_get_within}
use Rattle.std.specs.List.{filter, fold, list_any}
use Rattle.std.specs.Prelude.{IfSome, is_some, nat_lt, position, slice_get, if◌then◌else◌}
use Rattle.chord_circle.specs.Circle.{distance}
use Rattle.chord_scenario.specs.declared.scenario.Scenario.{Scenario}
use Rattle.chord_scenario.specs.World.{ident_of, node_count}
use Rattle.chord_node.specs.declared.state.NodeState.{NodeState}
use Rattle.chord_node.specs.Invariant.{AllNodes, IsNodeState}
use Rattle.chord_ops.specs.declared.turn.Turn.{Turn}
use Rattle.chord_ops.specs.Rules.{dropped, dropped_by, head, led_by, list_after, list_left, list_without, near_covered, nearer, nearest_finger, others_left, rescuer, without_at}
use Rattle.chord_ops.specs.Turns.{when_some}
use Rattle.chord_ops.proofs.KeptFields.{with_fingers, with_succ}
use Rattle.chord_ops.proofs.KeptRules.{first_known}

-- whether node x is nearer than node y
abbrev is_nearer : Scenario → (n x y : ℕ) → Bool
is_nearer sc n x y = nat_lt (distance sc.bits (ident_of sc n) (ident_of sc x)) (distance sc.bits (ident_of sc n) (ident_of sc y))

-- the nearer of two nodes of the scenario is the scenario's
pub nearer_known : (sc : Scenario) (n : ℕ) (o : Option ℕ) (x : ℕ) → IfSome o (λ y. y < node_count sc) → x < node_count sc
    → IfSome (nearer sc n o x) (λ y. y < node_count sc)
nearer_known sc n None x known at = at
nearer_known sc n (Some y) x known at = by (is_nearer sc n x y)
  where
    by : (b : Bool) → IfSome (if b then Some x else Some y) (λ z. z < node_count sc)
    by true = at
    by false = known

-- to look at a node again changes nothing
pub nearer_again : (sc : Scenario) (n : ℕ) (o : Option ℕ) (x : ℕ) → nearer sc n (nearer sc n o x) x ≡ nearer sc n o x
nearer_again sc n None x = elim (is_nearer sc n x x) as (λ t. (if t then Some x else Some x) ≡ Some x) [ true ↦ refl | false ↦ refl ]
nearer_again sc n (Some y) x = by (is_nearer sc n x y) refl
  where
    by : (b : Bool) → is_nearer sc n x y ≡ b → nearer sc n (if b then Some x else Some y) x ≡ (if b then Some x else Some y)
    by true is = elim (is_nearer sc n x x) as (λ t. (if t then Some x else Some x) ≡ Some x) [ true ↦ refl | false ↦ refl ]
    by false is = rw (is) refl

nearest_known : (sc : Scenario) (n : ℕ) (o : Option ℕ) (xs : List ℕ) → IfSome o (λ y. y < node_count sc) → AllNodes sc xs
    → IfSome (fold (nearer sc n) o xs) (λ y. y < node_count sc)
nearest_known sc n o [] known all = known
nearest_known sc n o (x ∷ xs) known all =
    nearest_known sc n (nearer sc n o x) xs (nearer_known sc n o x known (All-head (λ y. y < node_count sc) x xs all)) (All-tail (λ y. y < node_count sc) x xs all)

-- who rescues a node is the scenario's
pub rescuer_known : (sc : Scenario) (silent : ℕ) (s : NodeState) → AllNodes sc s.fingers → IfSome (rescuer sc silent s) (λ y. y < node_count sc)
unfolding rescuer nearest_finger
rescuer_known sc silent s fingers = by (list_any (λ x. not (x == s.me)) (others_left silent s.succ))
  where
    others : ℕ → Bool
    others x = not (x == s.me) && not (x == silent)

    by : (b : Bool) → IfSome (if b then None else fold (nearer sc s.me) None (filter (λ x. not (x == s.me) && not (x == silent)) s.fingers)) (λ y. y < node_count sc)
    by true = tt
    by false = nearest_known sc s.me None (filter others s.fingers) tt (All-filter others (λ y. y < node_count sc) s.fingers fingers)

-- the list that is left is one of the scenario's nodes, and no longer than the scenario says
led_known : (sc : Scenario) (o : Option ℕ) (list : List ℕ) → IfSome o (λ y. y < node_count sc) → AllNodes sc list → AllNodes sc (led_by sc o list)
led_known sc None list known all = all
led_known sc (Some x) list known all =
    All-take (λ y. y < node_count sc) sc.list (x ∷ list) (All-cons (λ y. y < node_count sc) x list known all)

led_few : (sc : Scenario) (o : Option ℕ) (list : List ℕ) → length list ≤ sc.list → length (led_by sc o list) ≤ sc.list
led_few sc None list few = few
led_few sc (Some x) list few = omega (arith, length-take sc.list (x ∷ list))

pub list_known : (sc : Scenario) (silent : ℕ) (s : NodeState) → AllNodes sc s.succ → AllNodes sc s.fingers → AllNodes sc (list_after sc silent s)
unfolding list_after
list_known sc silent s succ fingers =
    led_known sc (rescuer sc silent s) (others_left silent s.succ) (rescuer_known sc silent s fingers)
    (All-filter (λ x. not (x == silent)) (λ y. y < node_count sc) s.succ succ)

list_few : (sc : Scenario) (silent : ℕ) (s : NodeState) → length s.succ ≤ sc.list → length (list_after sc silent s) ≤ sc.list
unfolding list_after
list_few sc silent s few = led_few sc (rescuer sc silent s) (others_left silent s.succ)
    (omega (arith, few, length-filter (λ x. not (x == silent)) s.succ, count_by-le-length (λ x. not (x == silent)) s.succ))

pub put_known : (sc : Scenario) (silent first : ℕ) (xs : List ℕ) → first < node_count sc → AllNodes sc xs
    → AllNodes sc (map (λ x. if x == silent then first else x) xs)
put_known sc silent first [] at all = λ k d within. absurd (omega (arith, within))
put_known sc silent first (x ∷ xs) at all =
    All-cons (λ y. y < node_count sc) (if x == silent then first else x) (map (λ y. if y == silent then first else y) xs)
    (by (x == silent)) (put_known sc silent first xs at (All-tail (λ y. y < node_count sc) x xs all))
  where
    by : (b : Bool) → (if b then first else x) < node_count sc
    by true = at
    by false = All-head (λ y. y < node_count sc) x xs all

-- the list without a node that was asked for its state, too

pub at_known : (sc : Scenario) (o : Option ℕ) (xs : List ℕ) → AllNodes sc xs → AllNodes sc (without_at o xs)
at_known sc None xs all = all
at_known sc (Some index) xs all =
    All-append (λ y. y < node_count sc) (take index xs) (drop (suc index) xs)
    (All-take (λ y. y < node_count sc) index xs all) (All-drop (λ y. y < node_count sc) (suc index) xs all)

at_few : (o : Option ℕ) (xs : List ℕ) → length (without_at o xs) ≤ length xs
at_few None xs = omega arith
at_few (Some index) xs =
    omega (arith, length-append (take index xs) (drop (suc index) xs), length-take index xs, length-drop (suc index) xs)

pub without_known : (sc : Scenario) (silent : ℕ) (xs : List ℕ) → AllNodes sc xs → AllNodes sc (list_without sc silent xs)
without_known sc silent xs all = by (sc.profile == 4)
  where
    by : (b : Bool) → AllNodes sc (if b then without_at (position (λ x. x == silent) xs) xs else drop 1 xs)
    by true = at_known sc (position (λ x. x == silent) xs) xs all
    by false = All-drop (λ y. y < node_count sc) 1 xs all

pub without_few : (sc : Scenario) (silent : ℕ) (xs : List ℕ) → length (list_without sc silent xs) ≤ length xs
without_few sc silent xs = by (sc.profile == 4)
  where
    by : (b : Bool) → length (if b then without_at (position (λ x. x == silent) xs) xs else drop 1 xs) ≤ length xs
    by true = at_few (position (λ x. x == silent) xs) xs
    by false = omega (arith, length-drop 1 xs)

-- a node that still has a successor is as it was, but for its list and its fingers
pub dropped_state : (sc : Scenario) (silent first : ℕ) (s : NodeState) → slice_get (list_after sc silent s) 0 ≡ Some first → IsNodeState sc s
    → IsNodeState sc (record s { succ = list_after sc silent s; fingers = map (λ x. if x == silent then first else x) s.fingers })
dropped_state sc silent first s at h =
    let left : List ℕ = list_after sc silent s in
    let known : AllNodes sc left = list_known sc silent s h.neighbours.succ_known h.neighbours.fingers_known in
    let some : 0 < length left = slice_get_within left 0 first at in
    let own : first < node_count sc = subst (λ (o : Option ℕ). IfSome o (λ y. y < node_count sc)) at (first_known sc left known) in
    with_fingers sc (record s { succ = left }) (map (λ x. if x == silent then first else x) s.fingers)
    (put_known sc silent first s.fingers own h.neighbours.fingers_known) (length-map s.fingers (λ x. if x == silent then first else x))
    (with_succ sc s left known (list_few sc silent s h.neighbours.list) some h)

-- Dropping, and what comes after it

dropped_then_by : (sc : Scenario) (silent : ℕ) (step : Turn → Turn) (o : Option ℕ) (turn : Turn) → is_some o ≡ true
    → step (dropped_by sc silent (λ t. t) o turn) ≡ dropped_by sc silent step o turn
dropped_then_by sc silent step None turn is = absurd (cc)
dropped_then_by sc silent step (Some first) turn is = refl

-- a node that stays a member goes on
pub dropped_then : (sc : Scenario) (silent : ℕ) (step : Turn → Turn) (turn : Turn) → is_some (slice_get (list_after sc silent turn.state) 0) ≡ true
    → step (dropped sc silent (λ t. t) turn) ≡ dropped sc silent step turn
unfolding dropped
dropped_then sc silent step turn is =
    dropped_then_by sc silent step (slice_get (list_after sc silent turn.state) 0) (list_left sc silent turn) is

dropped_alone_by : (sc : Scenario) (silent : ℕ) (step : Turn → Turn) (o : Option ℕ) (turn : Turn) → is_some o ≡ false
    → dropped_by sc silent (λ t. t) o turn ≡ dropped_by sc silent step o turn
dropped_alone_by sc silent step None turn is = refl
dropped_alone_by sc silent step (Some first) turn is = absurd (cc)

-- a node that is stranded does nothing more
pub dropped_alone : (sc : Scenario) (silent : ℕ) (step : Turn → Turn) (turn : Turn) → is_some (slice_get (list_after sc silent turn.state) 0) ≡ false
    → dropped sc silent (λ t. t) turn ≡ dropped sc silent step turn
unfolding dropped
dropped_alone sc silent step turn is =
    dropped_alone_by sc silent step (slice_get (list_after sc silent turn.state) 0) (list_left sc silent turn) is

-- Fingers that the head covers

near_known_by : (sc : Scenario) (first : ℕ) (turn : Turn) (o : Option ℕ) → IfSome o (λ node. node < node_count sc) → AllNodes sc turn.state.fingers
    → AllNodes sc
    (when_some o (λ node. λ t. record t { state = record t.state { fingers = replicate (first - 2) node ++ drop (first - 2) t.state.fingers } }) turn).state.fingers
near_known_by sc first turn None known fingers = fingers
near_known_by sc first turn (Some node) known fingers =
    All-append (λ x. x < node_count sc) (replicate (first - 2) node) (drop (first - 2) turn.state.fingers)
    (All-replicate (λ x. x < node_count sc) (first - 2) node known)
    (All-drop (λ x. x < node_count sc) (first - 2) turn.state.fingers fingers)

-- they are nodes of the scenario
pub near_known : (sc : Scenario) (first : ℕ) (turn : Turn) → AllNodes sc turn.state.succ → AllNodes sc turn.state.fingers
    → AllNodes sc (near_covered first turn).state.fingers
unfolding near_covered
near_known sc first turn succ fingers = near_known_by sc first turn (head turn.state) (first_known sc turn.state.succ succ) fingers
