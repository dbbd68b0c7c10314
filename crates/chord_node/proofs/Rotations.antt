-- The nodes that are met clockwise from a member: those after it in the ring, then those before it.
use Rattle.std.proofs.Common.{◌≡◌, ⊎_elim, ℕ, ◌+◌, ◌<◌, true, List, [], ◌∷◌, ◌++◌, length, sym, ap, subst, arith}
use Rattle.std.specs.Prelude.{◌==◌, not, ◌-◌, ◌^◌}
use Rattle.std.specs.List.{Contains, filter}
use Rattle.std.proofs.lemmas.Bool.Decides.{nat_tests}
use Rattle.chord_circle.proofs.Distance.{distance-ahead, distance-behind}
use Rattle.des_event.proofs.Members.{contains_none, contains_here, contains_there, contains_cons, contains_left, contains_right, contains_append, contains_filter, filter_contains}
use Rattle.chord_scenario.specs.declared.scenario.Scenario.{Scenario}
use Rattle.chord_scenario.specs.Range.{IsInRange}
use Rattle.chord_scenario.specs.Start.{initial_nodes}
use Rattle.chord_scenario.specs.World.{ident_of, is_initial, node_count}
use Rattle.chord_node.specs.Places.{ring}
use Rattle.chord_node.specs.Ring.{clockwise, others, way}
use Rattle.chord_node.proofs.Rings.{initial-idents_apart, initial-known, others-ways_apart, range-has}
use Rattle.chord_node.proofs.Sorting.{IsAscending, same_ascending, sorted_by-ascends, sorted_by-contains, sorted_by-has}

-- ascending lists

ascends-left : (measure : ℕ → ℕ) (xs ys : List ℕ) → IsAscending measure (xs ++ ys) → IsAscending measure xs
ascends-left measure [] ys up = tt
ascends-left measure (x ∷ xs) ys up = (λ y c. up.0 y (contains_left xs ys y c), ascends-left measure xs ys up.1)

ascends-right : (measure : ℕ → ℕ) (xs ys : List ℕ) → IsAscending measure (xs ++ ys) → IsAscending measure ys
ascends-right measure [] ys up = up
ascends-right measure (x ∷ xs) ys up = ascends-right measure xs ys up.1

ascends-append : (measure : ℕ → ℕ) (xs ys : List ℕ) → IsAscending measure xs → IsAscending measure ys
    → ((x y : ℕ) → Contains xs x → Contains ys y → measure x < measure y) → IsAscending measure (xs ++ ys)
ascends-append measure [] ys up also apart = also
ascends-append measure (x ∷ xs) ys up also apart = (
  λ y c. ⊎_elim (λ r. up.0 y r) (λ r. apart x y (contains_here x xs) r) (contains_append xs ys y c),
  ascends-append measure xs ys up.1 also (λ z y c r. apart z y (contains_there z x xs c) r),
)

-- where one measure rises so does the other
ascends-by : (measure other : ℕ → ℕ) (xs : List ℕ) → IsAscending measure xs
    → ((x y : ℕ) → Contains xs x → Contains xs y → measure x < measure y → other x < other y) → IsAscending other xs
ascends-by measure other [] up rise = tt
ascends-by measure other (x ∷ xs) up rise = (
  λ y c. rise x y (contains_here x xs) (contains_there y x xs c) (up.0 y c),
  ascends-by measure other xs up.1 (λ y z c d. rise y z (contains_there y x xs c) (contains_there z x xs d)),
)

-- an ascending list, parted at one of its elements
pub record IsParted (measure : ℕ → ℕ) (n : ℕ) (xs : List ℕ) : Type 0 where
  pub before : List ℕ
  pub after : List ℕ
  pub whole : xs ≡ before ++ n ∷ after
  pub below : (x : ℕ) → Contains before x → measure x < measure n
  pub above : (x : ℕ) → Contains after x → measure n < measure x

parted : (measure : ℕ → ℕ) (n : ℕ) (xs : List ℕ) → IsAscending measure xs → Contains xs n → IsParted measure n xs
parted measure n [] up c = absurd (contains_none n c)
parted measure n (x ∷ xs) up c = ⊎_elim here (λ r. there r (parted measure n xs up.1 r)) (contains_cons n x xs c)
  where
    here : x ≡ n → IsParted measure n (x ∷ xs)
    here e = record {
      before = [];
      after = xs;
      whole = ap (λ y. y ∷ xs) e;
      below = λ y c. absurd (contains_none y c);
      above = λ y c. subst (λ z. measure z < measure y) e (up.0 y c);
    }

    there : Contains xs n → IsParted measure n xs → IsParted measure n (x ∷ xs)
    there r p = record {
      before = x ∷ p.before;
      after = p.after;
      whole = ap (λ ys. x ∷ ys) p.whole;
      below = λ y c. ⊎_elim (λ e. subst (λ z. measure z < measure n) e (up.0 n r)) (λ s. p.below y s) (contains_cons y x p.before c);
      above = p.above;
    }

-- the ring

pub ring-ascends : (sc : Scenario) → IsInRange sc → IsAscending (ident_of sc) (ring sc)
unfolding ring
ring-ascends sc ranges = sorted_by-ascends (ident_of sc) (initial_nodes sc) (initial-idents_apart sc ranges)

ring-initial : (sc : Scenario) (x : ℕ) → Contains (ring sc) x → Contains (initial_nodes sc) x
unfolding ring
ring-initial sc x c = sorted_by-contains (ident_of sc) (initial_nodes sc) x c

ring-has : (sc : Scenario) (x : ℕ) → Contains (initial_nodes sc) x → Contains (ring sc) x
unfolding ring
ring-has sc x c = sorted_by-has (ident_of sc) (initial_nodes sc) x c

initial-has : (sc : Scenario) (n : ℕ) → n < node_count sc → is_initial sc n ≡ true → Contains (initial_nodes sc) n
unfolding initial_nodes
initial-has sc n known member = contains_filter (is_initial sc) _ n (range-has 0 (node_count sc) n (omega arith) (omega arith)) member

-- a member of the ring, and the ring parted at it
pub record IsMember (sc : Scenario) (n : ℕ) : Type 0 where
  pub ranges : IsInRange sc
  pub known : n < node_count sc
  pub member : is_initial sc n ≡ true

pub ring-parted : (sc : Scenario) (n : ℕ) → IsMember sc n → IsParted (ident_of sc) n (ring sc)
ring-parted sc n m = parted (ident_of sc) n (ring sc) (ring-ascends sc m.ranges) (ring-has sc n (initial-has sc n m.known m.member))

-- so the ring is not empty
pub member-some : (sc : Scenario) (n : ℕ) → IsMember sc n → 0 < length (ring sc)
member-some sc n m =
    let c = ring-has sc n (initial-has sc n m.known m.member) in
    omega (arith, c.1)

pub in_ring-within : (sc : Scenario) (x : ℕ) → IsInRange sc → Contains (ring sc) x → ident_of sc x < 2 ^ sc.bits
in_ring-within sc x ranges c = ranges.nodes.on_circle x (initial-known sc x (ring-initial sc x c))

-- the nodes before and after a member, and how far they are from it
before-in_ring : (sc : Scenario) (n x : ℕ) (p : IsParted (ident_of sc) n (ring sc)) → Contains p.before x → Contains (ring sc) x
before-in_ring sc n x p c = subst (λ xs. Contains xs x) (sym p.whole) (contains_left p.before (n ∷ p.after) x c)

pub after-in_ring : (sc : Scenario) (n x : ℕ) (p : IsParted (ident_of sc) n (ring sc)) → Contains p.after x → Contains (ring sc) x
after-in_ring sc n x p c = subst (λ xs. Contains xs x) (sym p.whole) (contains_right p.before (n ∷ p.after) x (contains_there x n p.after c))

pub before-way : (sc : Scenario) (n x : ℕ) (p : IsParted (ident_of sc) n (ring sc)) → IsMember sc n → Contains p.before x
    → way sc n x ≡ ident_of sc x + 2 ^ sc.bits - ident_of sc n
before-way sc n x p m c = distance-behind sc.bits (ident_of sc n) (ident_of sc x) (p.below x c) (m.ranges.nodes.on_circle n m.known)

pub after-way : (sc : Scenario) (n x : ℕ) (p : IsParted (ident_of sc) n (ring sc)) → IsMember sc n → Contains p.after x
    → way sc n x ≡ ident_of sc x - ident_of sc n
after-way sc n x p m c = distance-ahead sc.bits (ident_of sc n) (ident_of sc x) (omega (arith, p.above x c))
    (in_ring-within sc x m.ranges (after-in_ring sc n x p c))

rotation-ascends : (sc : Scenario) (n : ℕ) (p : IsParted (ident_of sc) n (ring sc)) → IsMember sc n → IsAscending (way sc n) (p.after ++ p.before)
rotation-ascends sc n p m =
    let up : IsAscending (ident_of sc) (p.before ++ n ∷ p.after) = subst (λ xs. IsAscending (ident_of sc) xs) p.whole (ring-ascends sc m.ranges) in
    let after : IsAscending (ident_of sc) p.after = (ascends-right (ident_of sc) p.before (n ∷ p.after) up).1 in
    let before : IsAscending (ident_of sc) p.before = ascends-left (ident_of sc) p.before (n ∷ p.after) up in
    ascends-append (way sc n) p.after p.before
    (ascends-by (ident_of sc) (way sc n) p.after after (λ x y c d l. omega
    (arith, l, after-way sc n x p m c, after-way sc n y p m d, p.above x c, p.above y d)))
    (ascends-by (ident_of sc) (way sc n) p.before before (λ x y c d l. omega
    (arith, l, before-way sc n x p m c, before-way sc n y p m d, m.ranges.nodes.on_circle n m.known)))
    (λ x y c d. omega (
      arith,
      after-way sc n x p m c,
      before-way sc n y p m d,
      p.above x c,
      in_ring-within sc x m.ranges (after-in_ring sc n x p c),
      m.ranges.nodes.on_circle n m.known,
    ))

differs : (x n : ℕ) → (x ≡ n → ⊥) → not (x == n) ≡ true
differs x n h = grind (arith, nat_tests)

same_not : (n : ℕ) → not (n == n) ≡ true → ⊥
same_not n h = grind (arith, nat_tests)

to_clockwise : (sc : Scenario) (n x : ℕ) (p : IsParted (ident_of sc) n (ring sc)) → Contains (p.after ++ p.before) x → Contains (clockwise sc n) x
unfolding clockwise others
to_clockwise sc n x p c =
    let other : x ≡ n → ⊥ = λ e. ⊎_elim
    (λ r. omega (arith, p.above x r, ap (ident_of sc) e))
    (λ r. omega (arith, p.below x r, ap (ident_of sc) e))
    (contains_append p.after p.before x c) in
    let here : Contains (ring sc) x = ⊎_elim (λ r. after-in_ring sc n x p r) (λ r. before-in_ring sc n x p r) (contains_append p.after p.before x c) in
    sorted_by-has (way sc n) (filter (λ y. not (y == n)) (initial_nodes sc)) x
    (contains_filter (λ y. not (y == n)) (initial_nodes sc) x (ring-initial sc x here) (differs x n other))

from_clockwise : (sc : Scenario) (n x : ℕ) (p : IsParted (ident_of sc) n (ring sc)) → Contains (clockwise sc n) x → Contains (p.after ++ p.before) x
unfolding clockwise others
from_clockwise sc n x p c =
    let kept = filter_contains (λ y. not (y == n)) (initial_nodes sc) x
    (sorted_by-contains (way sc n) (filter (λ y. not (y == n)) (initial_nodes sc)) x c) in
    let here : Contains (p.before ++ n ∷ p.after) x = subst (λ xs. Contains xs x) p.whole (ring-has sc x kept.0) in
    ⊎_elim
    (λ r. contains_right p.after p.before x r)
    (λ r. ⊎_elim
    (λ e. absurd (same_not n (subst (λ y. not (y == n) ≡ true) (sym e) kept.1)))
    (λ s. contains_left p.after p.before x s)
    (contains_cons x n p.after r))
    (contains_append p.before (n ∷ p.after) x here)

clockwise-ascends : (sc : Scenario) (n : ℕ) → IsMember sc n → IsAscending (way sc n) (clockwise sc n)
unfolding clockwise
clockwise-ascends sc n m = sorted_by-ascends (way sc n) (others sc n) (others-ways_apart sc n m.ranges m.known)

-- clockwise from a member: first those after it, then those before it
pub rotation-is : (sc : Scenario) (n : ℕ) (p : IsParted (ident_of sc) n (ring sc)) → IsMember sc n → p.after ++ p.before ≡ clockwise sc n
rotation-is sc n p m = same_ascending (way sc n) (p.after ++ p.before) (clockwise sc n) (rotation-ascends sc n p m) (clockwise-ascends sc n m)
    (λ x c. to_clockwise sc n x p c) (λ x c. from_clockwise sc n x p c)
