-- The nodes of a ring at the start, in the order in which they are met.
use Rattle.std.proofs.Common.{◌≡◌, ⊎_elim, ℕ, zero, suc, ◌+◌, ◌<◌, ◌≤◌, Bool, true, false, cond, List, [], ◌∷◌, ◌++◌, map, length, get_or, refl, sym, ap, ◌∙◌, subst, arith}
use Rattle.std.specs.Prelude.{◌==◌, ◌-◌, Option, Some, None}
use Rattle.std.proofs.lemmas.List.{map-append}
use Rattle.std.specs.List.{AllByRecursion, Contains, IsDistinct, filter, filter_map, range_with_len}
use Rattle.std.proofs.lemmas.Bool.Decides.{nat_tests}
use Rattle.std.proofs.lemmas.Map.Keys.{IsDistinct-IsPermutation, IsDistinct-tail, apart_from_distinct}
use Rattle.std.proofs.lemmas.Bool.{ne_eqb}
use Rattle.std.specs.List.Sorted.{IsNonDecreasingBy, IsPermutation}
use Rattle.std.proofs.lemmas.List.Sorted.{Contains-permutation, IsPermutation-sym, IsPermutation-map}
use Rattle.chord_circle.proofs.Distance.{distance-injective}
use Rattle.des_event.proofs.Members.{contains_none, contains_here, contains_there, contains_cons, filter_contains}
use Rattle.chord_scenario.proofs.Ranges.{range-more}
use Rattle.chord_scenario.specs.declared.scenario.Scenario.{Scenario}
use Rattle.chord_scenario.specs.Range.{IsInRange}
use Rattle.chord_scenario.specs.Start.{initial_nodes, most_timers, timer_table, timers}
use Rattle.chord_scenario.specs.World.{ident_of, is_initial, node_count}
use Rattle.chord_node.specs.declared.ring.Place.{Place}
use Rattle.chord_node.specs.Places.{placed, ring}
use Rattle.chord_node.specs.Ring.{clockwise, finger, others, sorted_by, way}
use Rattle.chord_node.proofs.Sorting.{AreApart, IsAscending, same_ascending, sorted_by-ascends, sorted_by-contains, sorted_by-has}

-- ranges

pub range-contains : (a n x : ℕ) → Contains (range_with_len a n) x → (a ≤ x) × (x < a + n)
range-contains a zero x c = absurd (contains_none x c)
range-contains a (suc n) x c =
    ⊎_elim (λ e. (omega (arith, e), omega (arith, e)))
    (λ r. let w = range-contains (a + 1) n x r in (omega (arith, w.0), omega (arith, w.1)))
    (contains_cons x a (range_with_len (a + 1) n) c)

pub range-has : (a n x : ℕ) → a ≤ x → x < a + n → Contains (range_with_len a n) x
range-has a zero x least most = absurd (omega arith)
range-has a (suc n) x least most = go (a == x) refl (range-has (a + 1) n x)
  where
    go : (b : Bool) → (a == x) ≡ b → (a + 1 ≤ x → x < a + 1 + n → Contains (range_with_len (a + 1) n) x) → Contains (range_with_len a (suc n)) x
    go true e rest =
        let same : a ≡ x = grind (arith, nat_tests) in
        subst (λ y. Contains (range_with_len a (suc n)) y) same (contains_here a (range_with_len (a + 1) n))
    go false e rest =
        let more : a + 1 ≤ x = grind (arith, nat_tests) in
        contains_there x a (range_with_len (a + 1) n) (rest more (omega arith))

pub range-apart : (a n : ℕ) → AreApart (λ x. x) (range_with_len a n)
range-apart a zero = tt
range-apart a (suc n) = (λ y c e. omega (arith, (range-contains (a + 1) n y c).0, e), range-apart (a + 1) n)

pub filter-apart : (measure : ℕ → ℕ) (p : ℕ → Bool) (xs : List ℕ) → AreApart measure xs → AreApart measure (filter p xs)
filter-apart measure p [] h = tt
filter-apart measure p (x ∷ xs) h = go (p x) (filter-apart measure p xs h.1)
  where
    go : (b : Bool) → AreApart measure (filter p xs) → AreApart measure (cond b (x ∷ filter p xs) (filter p xs))
    go true rest = (λ y c e. h.0 y (filter_contains p xs y c).0 e, rest)
    go false rest = rest

-- the nodes at the start

pub initial-known : (sc : Scenario) (x : ℕ) → Contains (initial_nodes sc) x → x < node_count sc
unfolding initial_nodes
initial-known sc x c = omega (arith, (range-contains 0 (node_count sc) x (filter_contains (is_initial sc) (range_with_len 0 (node_count sc)) x c).0).1)

pub other-known : (sc : Scenario) (n x : ℕ) → Contains (others sc n) x → x < node_count sc
unfolding others
other-known sc n x c = initial-known sc x (filter_contains _ (initial_nodes sc) x c).0

pub others-apart : (sc : Scenario) (n : ℕ) → AreApart (λ x. x) (others sc n)
unfolding others initial_nodes
others-apart sc n = filter-apart (λ x. x) _ (filter (is_initial sc) (range_with_len 0 (node_count sc)))
    (filter-apart (λ x. x) (is_initial sc) (range_with_len 0 (node_count sc)) (range-apart 0 (node_count sc)))

-- different nodes are at different distances
ways-apart : (sc : Scenario) (n : ℕ) (xs : List ℕ) → IsInRange sc → n < node_count sc → ((x : ℕ) → Contains xs x → x < node_count sc)
    → AreApart (λ x. x) xs → AreApart (way sc n) xs
ways-apart sc n [] ranges known all h = tt
ways-apart sc n (x ∷ xs) ranges known all h = (
  λ y c e.
      let here = all x (contains_here x xs) in
      let there = all y (contains_there y x xs c) in
      h.0 y c (ranges.nodes.apart x y here there
      (distance-injective sc.bits (ident_of sc n) (ident_of sc x) (ident_of sc y) (ranges.nodes.on_circle n known) (ranges.nodes.on_circle x here)
      (ranges.nodes.on_circle y there) e)),
  ways-apart sc n xs ranges known (λ y c. all y (contains_there y x xs c)) h.1,
)

pub others-ways_apart : (sc : Scenario) (n : ℕ) → IsInRange sc → n < node_count sc → AreApart (way sc n) (others sc n)
others-ways_apart sc n ranges known = ways-apart sc n (others sc n) ranges known (other-known sc n) (others-apart sc n)

pub clockwise-known : (sc : Scenario) (n x : ℕ) → Contains (clockwise sc n) x → x < node_count sc
unfolding clockwise
clockwise-known sc n x c = other-known sc n x (sorted_by-contains (way sc n) (others sc n) x c)

pub initial-apart : (sc : Scenario) → AreApart (λ x. x) (initial_nodes sc)
unfolding initial_nodes
initial-apart sc = filter-apart (λ x. x) (is_initial sc) (range_with_len 0 (node_count sc)) (range-apart 0 (node_count sc))

-- different nodes have different identifiers
idents-apart : (sc : Scenario) (xs : List ℕ) → IsInRange sc → ((x : ℕ) → Contains xs x → x < node_count sc)
    → AreApart (λ x. x) xs → AreApart (ident_of sc) xs
idents-apart sc [] ranges all h = tt
idents-apart sc (x ∷ xs) ranges all h = (
  λ y c e. h.0 y c (ranges.nodes.apart x y (all x (contains_here x xs)) (all y (contains_there y x xs c)) e),
  idents-apart sc xs ranges (λ y c. all y (contains_there y x xs c)) h.1,
)

pub initial-idents_apart : (sc : Scenario) → IsInRange sc → AreApart (ident_of sc) (initial_nodes sc)
initial-idents_apart sc ranges = idents-apart sc (initial_nodes sc) ranges (initial-known sc) (initial-apart sc)

abbrev same_measure : (ℕ → ℕ) → ℕ → ℕ → Bool
same_measure measure x y = measure x == measure y

distinct_from_apart : (measure : ℕ → ℕ) (xs : List ℕ) → AreApart measure xs → IsDistinct (same_measure measure) xs
unfolding IsDistinct
distinct_from_apart measure [] apart = tt
distinct_from_apart measure (x ∷ xs) apart = (each xs apart.0, distinct_from_apart measure xs apart.1)
  where
    each : (ys : List ℕ) → ((y : ℕ) → Contains ys y → measure x ≡ measure y → ⊥) → AllByRecursion (λ y. same_measure measure x y ≡ false) ys
    each [] h = tt
    each (y ∷ ys) h = (ne_eqb (measure x) (measure y) (h y (contains_here y ys)), each ys (λ z c. h z (contains_there z y ys c)))

eqb-flip : (a b : ℕ) → (a == b) ≡ (b == a)
eqb-flip a b = grind (arith, nat_tests)

-- a list without repeats that does not descend ascends
ascends : (measure : ℕ → ℕ) (xs : List ℕ) → IsNonDecreasingBy measure xs → IsDistinct (same_measure measure) xs → IsAscending measure xs
ascends measure [] up apart = tt
ascends measure (x ∷ xs) up apart = (
  λ y c.
      let le : measure x ≤ measure (get_or xs c.0 y) = up 0 (suc c.0) y (omega arith) (omega (arith, c.1)) in
      let e : measure (get_or xs c.0 y) ≡ measure y = ap measure c.2 in
      let apart : same_measure measure x (get_or xs c.0 y) ≡ false = apart_from_distinct (same_measure measure) (x ∷ xs) 0 (suc c.0) y apart
      (omega arith) (omega (arith, c.1)) in
      grind (arith, nat_tests),
  ascends measure xs (λ i j d l k. up (suc i) (suc j) d (omega (arith, l)) (omega (arith, k))) (IsDistinct-tail (same_measure measure) x xs apart),
)

-- the members at the start, put in the order of their identifiers, are the ring
pub sorted_members : (sc : Scenario) (ys : List ℕ) → IsInRange sc → IsPermutation (initial_nodes sc) ys
    → IsNonDecreasingBy (ident_of sc) ys → ys ≡ ring sc
unfolding ring
sorted_members sc ys ranges moved up =
    let apart = initial-idents_apart sc ranges in
    let flips : (x y : ℕ) → same_measure (ident_of sc) x y ≡ same_measure (ident_of sc) y x = λ x y. eqb-flip (ident_of sc x) (ident_of sc y) in
    same_ascending (ident_of sc) ys (sorted_by (ident_of sc) (initial_nodes sc))
    (ascends (ident_of sc) ys up (IsDistinct-IsPermutation (same_measure (ident_of sc)) flips (initial_nodes sc) ys moved
    (distinct_from_apart (ident_of sc) (initial_nodes sc) apart)))
    (sorted_by-ascends (ident_of sc) (initial_nodes sc) apart)
    (λ z c. sorted_by-has (ident_of sc) (initial_nodes sc) z (Contains-permutation ys (initial_nodes sc) z (IsPermutation-sym (initial_nodes sc) ys moved) c))
    (λ z c. Contains-permutation (initial_nodes sc) ys z moved (sorted_by-contains (ident_of sc) (initial_nodes sc) z c))

-- one finger more
pub fingers-more : (sc : Scenario) (n i : ℕ) (done : List ℕ) (next : ℕ) → 2 ≤ i → next ≡ finger sc n i
    → done ≡ map (finger sc n) (range_with_len 2 (i - 2)) → done ++ next ∷ [] ≡ map (finger sc n) (range_with_len 2 (i + 1 - 2))
fingers-more sc n i done next first here so_far =
    let more : i + 1 - 2 ≡ i - 2 + 1 = omega arith in
    let at : 2 + (i - 2) ≡ i = omega arith in
    let range : range_with_len 2 (i + 1 - 2) ≡ range_with_len 2 (i - 2) ++ i ∷ [] = ap (range_with_len 2) more ∙ range-more 2 (i - 2)
    ∙ ap (λ (k : ℕ). range_with_len 2 (i - 2) ++ k ∷ []) at in
    (λ j. so_far j ++ here j ∷ []) ∙ sym (ap (map (finger sc n)) range ∙ map-append (finger sc n) (range_with_len 2 (i - 2)) (i ∷ []))

rec_at : {A : Type 0} (P : A → Type 0) (xs : List A) (x : A) → AllByRecursion P xs → Contains xs x → P x
rec_at P [] x all c = absurd (contains_none x c)
rec_at P (y ∷ xs) x all c = ⊎_elim (λ e. subst P e all.0) (λ r. rec_at P xs x all.1 r) (contains_cons x y xs c)

rec_from : {A : Type 0} (P : A → Type 0) (xs : List A) → ((x : A) → Contains xs x → P x) → AllByRecursion P xs
rec_from P [] h = tt
rec_from P (x ∷ xs) h = (h x (contains_here x xs), rec_from P xs (λ y c. h y (contains_there y x xs c)))

map_long : (places : List Place) → length (map (λ (p : Place). p.node) places) ≡ length places
map_long [] = refl
map_long (p ∷ places) = ap suc (map_long places)

-- nodes with their identifiers, moved into the order of these, are the ring
pub placed-nodes : (sc : Scenario) (xs : List ℕ) → map (λ (p : Place). p.node) (placed sc xs) ≡ xs
placed-nodes sc [] = refl
placed-nodes sc (x ∷ xs) = ap (λ ys. x ∷ ys) (placed-nodes sc xs)

replaced : (sc : Scenario) (places : List Place) → AllByRecursion (λ p. p.ident ≡ ident_of sc p.node) places
    → places ≡ placed sc (map (λ (p : Place). p.node) places)
replaced sc [] h = refl
replaced sc (p ∷ places) h = λ i. record { ident = h.0 i; node = p.node } ∷ replaced sc places h.1 i

all_placed : (sc : Scenario) (xs : List ℕ) → AllByRecursion (λ (p : Place). p.ident ≡ ident_of sc p.node) (placed sc xs)
all_placed sc [] = tt
all_placed sc (x ∷ xs) = (refl, all_placed sc xs)

idents_of : (sc : Scenario) (places : List Place) → AllByRecursion (λ p. p.ident ≡ ident_of sc p.node) places → IsNonDecreasingBy (λ p. p.ident) places
    → IsNonDecreasingBy (ident_of sc) (map (λ (p : Place). p.node) places)
idents_of sc places own up = λ i j d l k.
    let long : length (map (λ (p : Place). p.node) places) ≡ length places = map_long places in
    let e : Place = record { ident = ident_of sc d; node = d } in
    let at : (i : ℕ) → ident_of sc (get_or (map (λ (p : Place). p.node) places) i d) ≡ (get_or places i e).ident = λ i. idents_at places own d i in
    let le : (get_or places i e).ident ≤ (get_or places j e).ident = up i j e l (omega (arith, k, long)) in
    omega (arith, le, at i, at j)
  where
    idents_at : (places : List Place) → AllByRecursion (λ p. p.ident ≡ ident_of sc p.node) places → (d : ℕ) (i : ℕ)
        → ident_of sc (get_or (map (λ (p : Place). p.node) places) i d) ≡ (get_or places i (record { ident = ident_of sc d; node = d })).ident
    idents_at [] own d i = refl
    idents_at (p ∷ places) own d zero = sym own.0
    idents_at (p ∷ places) own d (suc i) = idents_at places own.1 d i

pub sorted_places : (sc : Scenario) (places : List Place) → IsInRange sc → IsPermutation (placed sc (initial_nodes sc)) places
    → IsNonDecreasingBy (λ p. p.ident) places → places ≡ placed sc (ring sc)
sorted_places sc places ranges moved up =
    let Own : Place → Type 0 = λ p. p.ident ≡ ident_of sc p.node in
    let from : List Place = placed sc (initial_nodes sc) in
    let own : AllByRecursion Own places = rec_from Own places (λ p c. rec_at Own from p (all_placed sc (initial_nodes sc))
    (Contains-permutation places from p (IsPermutation-sym from places moved) c)) in
    let nodes : IsPermutation (initial_nodes sc) (map (λ (p : Place). p.node) places) = subst (λ xs. IsPermutation xs (map (λ (p : Place). p.node) places))
    (placed-nodes sc (initial_nodes sc)) (IsPermutation-map (λ (p : Place). p.node) (placed sc (initial_nodes sc)) places moved) in
    replaced sc places own ∙ ap (placed sc) (sorted_members sc (map (λ (p : Place). p.node) places) ranges nodes (idents_of sc places own up))

-- one state more
pub states-more : {A : Type 0} (f : ℕ → A) (n : ℕ) (done : List A) (x : A) → x ≡ f n → done ≡ map f (range_with_len 0 n)
    → done ++ x ∷ [] ≡ map f (range_with_len 0 (n + 1))
states-more f n done x here so_far =
    let at : 0 + n ≡ n = omega arith in
    (λ i. so_far i ++ here i ∷ []) ∙ sym (ap (map f) (range-more 0 n ∙ ap (λ (k : ℕ). range_with_len 0 n ++ k ∷ []) at)
    ∙ map-append f (range_with_len 0 n) (n ∷ []))

-- a table has at most as many timers as rows
timers-in : {A : Type 0} (rows : List (Option A)) → length (filter_map (λ row. row) rows) ≤ length rows
timers-in [] = omega arith
timers-in (None ∷ rows) = omega (arith, timers-in rows)
timers-in (Some timer ∷ rows) = omega (arith, timers-in rows)

pub timers-few : (sc : Scenario) (n : ℕ) → (1 ≤ length (timers sc n)) × (length (timers sc n) ≤ most_timers)
unfolding timers
timers-few sc n = (omega arith, omega (arith, timers-in (timer_table sc n 1)))
