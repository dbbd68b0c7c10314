-- The states of the nodes while the members at the start are put in, in any order.
use Rattle.std.proofs.Common.{◌≡◌, ⊎_elim, ℕ, zero, suc, ◌+◌, ◌≤◌, ◌<◌, Bool, true, false, cond, List, [], ◌∷◌, ◌++◌, map, length, get_or, take, refl, sym, ap, ◌∙◌, subst, arith, slice_set}
use Rattle.std.specs.Prelude.{◌==◌}
use Rattle.std.proofs.lemmas.Bool.{false≢true, ne_eqb}
use Rattle.std.proofs.lemmas.Bool.Decides.{nat_tests}
use Rattle.std.specs.List.{Contains, range_with_len}
use Rattle.des_event.proofs.Members.{contains_none, contains_here, contains_there, contains_cons, filter_contains, contains_filter}
use Rattle.chord_scenario.specs.declared.scenario.Scenario.{Scenario}
use Rattle.chord_scenario.specs.Start.{initial_nodes}
use Rattle.chord_scenario.specs.World.{ident_of, is_initial, node_count}
use Rattle.chord_node.specs.declared.state.NodeState.{NodeState}
use Rattle.chord_node.specs.declared.ring.Place.{Place}
use Rattle.chord_node.specs.Places.{placed, ring}
use Rattle.chord_node.specs.Ring.{first_member, initial_ring, initial_state, never_up}
use Rattle.chord_node.proofs.Rings.{initial-known, placed-nodes, range-has}
use Rattle.chord_node.proofs.Sorting.{sorted_by-contains, sorted_by-has}

-- whether a node is one of these
abbrev pub is_one : List ℕ → ℕ → Bool
is_one [] n = false
is_one (x ∷ xs) n = cond (n == x) true (is_one xs n)

-- the state of a node once these are members
abbrev pub joined : Scenario → List ℕ → ℕ → NodeState
joined sc xs n = cond (is_one xs n) (first_member sc n) (never_up n)

cond-same : {A : Type 0} (b : Bool) (x : A) → cond b x x ≡ x
cond-same true x = refl
cond-same false x = refl

eqb-same : (n : ℕ) → (n == n) ≡ true
eqb-same n = grind (arith, nat_tests)

is_one-more : (xs : List ℕ) (x n : ℕ) → is_one (xs ++ x ∷ []) n ≡ cond (n == x) true (is_one xs n)
is_one-more [] x n = refl
is_one-more (y ∷ xs) x n = ap (cond (n == y) true) (is_one-more xs x n) ∙ swap (n == y) (n == x) (is_one xs n)
  where
    swap : (a b c : Bool) → cond a true (cond b true c) ≡ cond b true (cond a true c)
    swap true b c = sym (cond-same b true)
    swap false b c = refl

is_one-contains : (xs : List ℕ) (n : ℕ) → is_one xs n ≡ true → Contains xs n
is_one-contains [] n h = absurd (false≢true h)
is_one-contains (x ∷ xs) n h = go (n == x) refl h (is_one-contains xs n)
  where
    go : (b : Bool) → (n == x) ≡ b → cond b true (is_one xs n) ≡ true → (is_one xs n ≡ true → Contains xs n) → Contains (x ∷ xs) n
    go true e k rest =
        let same : x ≡ n = grind (arith, nat_tests) in
        subst (λ y. Contains (x ∷ xs) y) same (contains_here x xs)
    go false e k rest = contains_there n x xs (rest k)

contains-is_one : (xs : List ℕ) (n : ℕ) → Contains xs n → is_one xs n ≡ true
contains-is_one [] n c = absurd (contains_none n c)
contains-is_one (x ∷ xs) n c =
    ⊎_elim (λ e. ap (λ b. cond b true (is_one xs n)) (ap (λ y. n == y) e ∙ eqb-same n))
    (λ r. ap (cond (n == x) true) (contains-is_one xs n r) ∙ cond-same (n == x) true)
    (contains_cons n x xs c)

map-same : {A : Type 0} (f g : ℕ → A) (a n : ℕ) → ((m : ℕ) → a ≤ m → m < a + n → f m ≡ g m) → map f (range_with_len a n) ≡ map g (range_with_len a n)
map-same f g a zero h = refl
map-same f g a (suc n) h =
    λ i. h a (omega arith) (omega arith) i ∷ map-same f g (a + 1) n (λ m least most. h m (omega (arith, least)) (omega (arith, most))) i

-- a list of values by number, with another value in one place
set-map : {A : Type 0} (f g : ℕ → A) (a n x : ℕ) → x < n → ((m : ℕ) → (m ≡ a + x → ⊥) → f m ≡ g m)
    → slice_set (map f (range_with_len a n)) x (g (a + x)) ≡ map g (range_with_len a n)
set-map f g a zero x l other = absurd (omega (arith, l))
set-map f g a (suc n) zero l other =
    let at : a + 0 ≡ a = omega arith in
    λ i. g (at i) ∷ map-same f g (a + 1) n (λ m least most. other m (λ e. omega (arith, least, e))) i
set-map f g a (suc n) (suc x) l other =
    let at : a + suc x ≡ a + 1 + x = omega arith in
    λ i. other a (λ e. omega (arith, e)) i ∷ (ap (λ k. slice_set (map f (range_with_len (a + 1) n)) x (g k)) at
    ∙ set-map f g (a + 1) n x (omega (arith, l)) (λ m apart. other m (λ e. apart (omega (arith, e))))) i

-- one member more
pub joined-more : (sc : Scenario) (xs : List ℕ) (x n : ℕ) → x < n
    → slice_set (map (joined sc xs) (range_with_len 0 n)) x (first_member sc x) ≡ map (joined sc (xs ++ x ∷ [])) (range_with_len 0 n)
joined-more sc xs x n l =
    let at : 0 + x ≡ x = omega arith in
    let one : is_one (xs ++ x ∷ []) x ≡ true = is_one-more xs x x ∙ ap (λ b. cond b true (is_one xs x)) (eqb-same x) in
    let here : joined sc (xs ++ x ∷ []) (0 + x) ≡ first_member sc x = ap (joined sc (xs ++ x ∷ [])) at
    ∙ ap (λ b. cond b (first_member sc x) (never_up x)) one in
    ap (slice_set (map (joined sc xs) (range_with_len 0 n)) x) (sym here)
    ∙ set-map (joined sc xs) (joined sc (xs ++ x ∷ [])) 0 n x l
    (λ m apart.
    let other : (m == x) ≡ false = ne_eqb m x (λ e. apart (omega (arith, e))) in
    ap (λ b. cond b (first_member sc m) (never_up m)) (sym (is_one-more xs x m ∙ ap (λ b. cond b true (is_one xs m)) other)))

-- a node of the ring is a member at the start
pub ring-member : (sc : Scenario) (n : ℕ) → Contains (ring sc) n → (n < node_count sc) × (is_initial sc n ≡ true)
unfolding ring initial_nodes
ring-member sc n c =
    let there : Contains (initial_nodes sc) n = sorted_by-contains (ident_of sc) (initial_nodes sc) n c in
    (initial-known sc n there, (filter_contains (is_initial sc) (range_with_len 0 (node_count sc)) n there).1)

in_ring-is : (sc : Scenario) (n : ℕ) → n < node_count sc → is_one (ring sc) n ≡ is_initial sc n
unfolding ring initial_nodes
in_ring-is sc n known = go (is_one (ring sc) n) (is_initial sc n) refl refl
  where
    go : (b c : Bool) → is_one (ring sc) n ≡ b → is_initial sc n ≡ c → b ≡ c
    go true true h k = refl
    go false false h k = refl
    go true false h k = sym (ring-member sc n (is_one-contains (ring sc) n h)).1 ∙ k
    go false true h k =
        let all = range_with_len 0 (node_count sc) in
        let there = contains_filter (is_initial sc) all n (range-has 0 (node_count sc) n (omega arith) (omega (arith, known))) k in
        sym h ∙ contains-is_one (ring sc) n (sorted_by-has (ident_of sc) (initial_nodes sc) n there)

-- once all nodes of the ring are members, the states are those at the start
pub joined-all : (sc : Scenario) → map (joined sc (ring sc)) (range_with_len 0 (node_count sc)) ≡ initial_ring sc
unfolding initial_ring initial_state
joined-all sc = map-same (joined sc (ring sc)) (initial_state sc) 0 (node_count sc)
    (λ m least most. ap (λ b. cond b (first_member sc m) (never_up m)) (in_ring-is sc m (omega (arith, most))))

node_in : (places : List Place) (k : ℕ) (d : Place) → k < length places → Contains (map (λ (p : Place). p.node) places) (get_or places k d).node
node_in [] k d l = absurd (omega (arith, l))
node_in (p ∷ places) zero d l = contains_here p.node (map (λ (q : Place). q.node) places)
node_in (p ∷ places) (suc k) d l = contains_there (get_or places k d).node p.node (map (λ (q : Place). q.node) places)
    (node_in places k d (omega (arith, l)))

-- the node at a place of the ring
pub node-in_ring : (sc : Scenario) (places : List Place) (k : ℕ) (d : Place) → places ≡ placed sc (ring sc) → k < length places
    → Contains (ring sc) (get_or places k d).node
node-in_ring sc places k d whole l =
    subst (λ (xs : List ℕ). Contains xs (get_or places k d).node) (ap (map (λ (p : Place). p.node)) whole ∙ placed-nodes sc (ring sc)) (node_in places k d l)

-- the nodes at one place more
pub nodes-more : (places : List Place) (k : ℕ) (d : Place) → k < length places
    → map (λ (p : Place). p.node) (take (k + 1) places) ≡ map (λ (p : Place). p.node) (take k places) ++ (get_or places k d).node ∷ []
nodes-more [] k d l = absurd (omega (arith, l))
nodes-more (p ∷ places) zero d l = refl
nodes-more (p ∷ places) (suc k) d l =
    let at : suc k + 1 ≡ suc (k + 1) = omega arith in
    ap (λ j. map (λ (q : Place). q.node) (take j (p ∷ places))) at ∙ ap (λ xs. p.node ∷ xs) (nodes-more places k d (omega (arith, l)))
