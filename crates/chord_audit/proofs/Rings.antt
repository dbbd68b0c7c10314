-- Steps from node to node, and the nodes that they lead back to.
use Rattle.std.proofs.Common.{
  ◌≡◌,
  ℕ,
  zero,
  suc,
  ◌+◌,
  ◌-◌,
  ◌<◌,
  ◌≤◌,
  ◌⊎◌,
  inl,
  inr,
  Bool,
  true,
  false,
  ◌||◌,
  List,
  [],
  ◌∷◌,
  length,
  Option,
  Some,
  None,
  refl,
  sym,
  ap,
  ◌∙◌,
  subst,
  arith,
  add-suc,
  add-zero,
  option_and_then,
  unwrap_or,
}
use Rattle.std.specs.List.{list_any, AllByRecursion, IsDistinct}
use Rattle.std.specs.Cmp.{IsEquivalence}
use Rattle.std.proofs.lemmas.Bool.Decides.{nat_tests}
use Rattle.std.proofs.lemmas.Bool.{eqb-true, eq-eqb}
use Rattle.std.proofs.lemmas.Map.Keys.{IsDistinct-cons}
use Rattle.std.proofs.lemmas.Map.Made.{length-le_from_is_member}
use Rattle.std.proofs.Math.Dec.{eqb}
use Rattle.chord_audit.specs.Audit.{after}

-- steps, and then more
pub after_then : (next : ℕ → Option ℕ) (b a n m : ℕ) → after next b n ≡ Some m → after next (b + a) n ≡ after next a m
after_then next b zero n m h = rw add-zero h
after_then next b (suc a) n m h = rw add-suc (ap (option_and_then next) (after_then next b a n m h))

pub after_none : (next : ℕ → Option ℕ) (b a n : ℕ) → after next b n ≡ None → after next (b + a) n ≡ None
after_none next b zero n h = rw add-zero h
after_none next b (suc a) n h = rw add-suc (ap (option_and_then next) (after_none next b a n h))

pub after_twice : (next : ℕ → Option ℕ) (k n : ℕ) → after next (k + k) n ≡ option_and_then (after next k) (after next k n)
after_twice next k n = twice (after next k n) refl
  where
    twice : (o : Option ℕ) → after next k n ≡ o → after next (k + k) n ≡ option_and_then (after next k) o
    twice None h = after_none next k k n h
    twice (Some m) h = after_then next k k n m h

-- the way passes some node
pub passes : (next : ℕ → Option ℕ) (a b n m : ℕ) → after next (a + b) n ≡ Some m → (q : ℕ) × (after next a n ≡ Some q) × (after next b q ≡ Some m)
passes next a b n m h = passed (after next a n) refl
  where
    passed : (o : Option ℕ) → after next a n ≡ o → (q : ℕ) × (after next a n ≡ Some q) × (after next b q ≡ Some m)
    passed None e = let none : after next (a + b) n ≡ None = after_none next a b n e in absurd cc
    passed (Some q) e = (q, e, sym (after_then next a b n q e) ∙ h)

-- a node that comes back comes back after arbitrarily many steps
pub comes_later : (next : ℕ → Option ℕ) (p n : ℕ) → 1 ≤ p → after next p n ≡ Some n → (k : ℕ) → (j : ℕ) × (k ≤ j) × (after next j n ≡ Some n)
comes_later next p n some h zero = (0, omega arith, refl)
comes_later next p n some h (suc k) =
    let on = comes_later next p n some h k in
    let far : k ≤ on.0 = on.1 in
    (on.0 + p, omega arith, after_then next on.0 p n n on.2 ∙ h)

-- so there is one from which this number of steps leads to it
pub led_to : (next : ℕ → Option ℕ) (p n k : ℕ) → 1 ≤ p → after next p n ≡ Some n → (y : ℕ) × (j : ℕ) × (after next j n ≡ Some y) × (after next k y ≡ Some n)
led_to next p n k some h =
    let on = comes_later next p n some h k in
    let far : k ≤ on.0 = on.1 in
    let split : on.0 ≡ (on.0 - k) + k = omega arith in
    let way : after next ((on.0 - k) + k) n ≡ Some n = sym (ap (λ j. after next j n) split) ∙ on.2 in
    let half = passes next (on.0 - k) k n n way in
    (half.0, on.0 - k, half.1, half.2)

-- Among more numbers than a list has members some two are equal, if all are in the list.

abbrev IsIn : List ℕ → ℕ → Type 0
IsIn ys q = list_any (eqb q) ys ≡ true

abbrev first_of : (p : ℕ → ℕ) → (k : ℕ) → List ℕ
first_of p zero = []
first_of p (suc k) = p k ∷ first_of p k

equal_numbers : IsEquivalence eqb
equal_numbers = record {
  refl = λ x. eq-eqb x x refl;
  symm = λ x y. grind (arith, nat_tests);
  congr = λ x y z h. ap (λ k. eqb k z) (eqb-true x y h);
}

both_false : (a b : Bool) → (a || b) ≡ false → (a ≡ false) × (b ≡ false)
both_false true b h = absurd cc
both_false false b h = (refl, h)

none_equal : (q : ℕ) (ys : List ℕ) → list_any (eqb q) ys ≡ false → AllByRecursion (λ y. eqb q y ≡ false) ys
none_equal q [] h = tt
none_equal q (y ∷ ys) h = let both = both_false (eqb q y) (list_any (eqb q) ys) h in (both.0, none_equal q ys both.1)

abbrev Repeats : (p : ℕ → ℕ) → (k : ℕ) → Type 0
Repeats p k = (i : ℕ) × (j : ℕ) × (i < j) × (j < k) × (p i ≡ p j)

found_in : (p : ℕ → ℕ) (q k : ℕ) → IsIn (first_of p k) q → (i : ℕ) × (i < k) × (p i ≡ q)
found_in p q zero h = absurd cc
found_in p q (suc k) h = found (eqb q (p k)) refl (λ r. found_in p q k r)
  where
    found : (b : Bool) → eqb q (p k) ≡ b → (IsIn (first_of p k) q → (i : ℕ) × (i < k) × (p i ≡ q)) → (i : ℕ) × (i < suc k) × (p i ≡ q)
    found true e more = (k, omega arith, sym (eqb-true q (p k) e))
    found false e more =
        let rest = more (sym (ap (λ b. b || list_any (eqb q) (first_of p k)) e) ∙ h) in
        let low : rest.0 < k = rest.1 in
        (rest.0, omega arith, rest.2)

more_repeats : (p : ℕ → ℕ) (k : ℕ) → Repeats p k → Repeats p (suc k)
more_repeats p k (i, j, low, high, same) = (i, j, low, omega arith, same)

repeats_or : (p : ℕ → ℕ) (k : ℕ) → Repeats p k ⊎ IsDistinct eqb (first_of p k)
unfolding IsDistinct
repeats_or p zero = inr tt
repeats_or p (suc k) = one_more (repeats_or p k) (list_any (eqb (p k)) (first_of p k)) refl
  where
    one_more : Repeats p k ⊎ IsDistinct eqb (first_of p k) → (b : Bool) → list_any (eqb (p k)) (first_of p k) ≡ b
        → Repeats p (suc k) ⊎ IsDistinct eqb (first_of p (suc k))
    one_more (inl r) b e = inl (more_repeats p k r)
    one_more (inr d) true e = let at = found_in p (p k) k e in inl (at.0, k, at.1, omega arith, at.2)
    one_more (inr d) false e = inr (IsDistinct-cons eqb (p k) (first_of p k) (none_equal (p k) (first_of p k) e) d)

length-first_of : (p : ℕ → ℕ) (k : ℕ) → length (first_of p k) ≡ k
length-first_of p zero = refl
length-first_of p (suc k) = ap suc (length-first_of p k)

two_equal : (p : ℕ → ℕ) (ys : List ℕ) (k : ℕ) → ((i : ℕ) → i < k → IsIn ys (p i)) → length ys < k → Repeats p k
two_equal p ys k all less = elim (repeats_or p k) [
  | inl r ↦ r
  | inr d ↦
      let within : (q : ℕ) → IsIn (first_of p k) q → IsIn ys q = λ q h. let at = found_in p q k h in subst (IsIn ys) at.2 (all at.0 at.1) in
      let few : length (first_of p k) ≤ length ys = length-le_from_is_member equal_numbers (first_of p k) ys d within in
      absurd (omega (arith, few, length-first_of p k))
]

known : (o : Option ℕ) (q : ℕ) → o ≡ Some q → o ≡ Some (unwrap_or o 0)
known o q h = h ∙ ap (λ (w : Option ℕ). Some (unwrap_or w 0)) (sym h)

-- a way of more steps than there are nodes on it ends where it comes back
pub comes_back_within : (next : ℕ → Option ℕ) (ys : List ℕ) (k y n : ℕ) → ((i q : ℕ) → after next (suc i) y ≡ Some q → IsIn ys q) → length ys < k
    → after next k y ≡ Some n → (d : ℕ) × (1 ≤ d) × (d ≤ length ys) × (after next d n ≡ Some n)
comes_back_within next ys k y n all more h = back (two_equal place ys (suc (length ys)) (λ i lt. all i (place i) (there i (omega arith))) (omega arith))
  where
    place : ℕ → ℕ
    place i = unwrap_or (after next (suc i) y) 0

    there : (i : ℕ) → i < k → after next (suc i) y ≡ Some (unwrap_or (after next (suc i) y) 0)
    there i lt =
        let split : k ≡ suc i + (k - suc i) = omega arith in
        let half = passes next (suc i) (k - suc i) y n (sym (ap (λ j. after next j y) split) ∙ h) in
        known (after next (suc i) y) half.0 half.1

    back : Repeats place (suc (length ys)) → (d : ℕ) × (1 ≤ d) × (d ≤ length ys) × (after next d n ≡ Some n)
    back (i, j, low, high, same) =
        let q : ℕ = place i in
        let r : ℕ = k - suc i in
        let d : ℕ = j - i in
        let to_i : after next (suc i) y ≡ Some q = there i (omega arith) in
        let to_j : after next (suc j) y ≡ Some q = there j (omega arith) ∙ sym (ap (λ w. Some w) same) in
        let on_to_j : suc i + d ≡ suc j = omega arith in
        let on_to_end : suc i + r ≡ k = omega arith in
        let either_way : r + d ≡ d + r = omega arith in
        let round : after next d q ≡ Some q = sym (after_then next (suc i) d y q to_i) ∙ ap (λ w. after next w y) on_to_j ∙ to_j in
        let end : after next r q ≡ Some n = sym (after_then next (suc i) r y q to_i) ∙ ap (λ w. after next w y) on_to_end ∙ h in
        let turned : after next (r + d) q ≡ Some n = ap (λ w. after next w q) either_way ∙ after_then next d r q q round ∙ end in
        (d, omega arith, omega arith, sym (after_then next r d q n end) ∙ turned)

-- steps stay among the first N nodes, if each does
abbrev pub Leads : (most : ℕ) → (ℕ → Option ℕ) → Type 0
Leads most next = (n m : ℕ) → n < most → next n ≡ Some m → m < most

pub after_below : (most : ℕ) (next : ℕ → Option ℕ) → Leads most next → (k n m : ℕ) → n < most → after next k n ≡ Some m → m < most
after_below most next leads zero n m lt h = let same : n ≡ m = cc in omega arith
after_below most next leads (suc k) n m lt h = last (after next k n) refl h (λ q e. after_below most next leads k n q lt e)
  where
    last : (o : Option ℕ) → after next k n ≡ o → option_and_then next o ≡ Some m → ((q : ℕ) → after next k n ≡ Some q → q < most) → m < most
    last None e g below = absurd cc
    last (Some q) e g below = leads q m (below q e) g

pub after_same : (most : ℕ) (next other : ℕ → Option ℕ) → Leads most next → ((n : ℕ) → n < most → next n ≡ other n) → (k n : ℕ) → n < most
    → after next k n ≡ after other k n
after_same most next other leads same zero n lt = refl
after_same most next other leads same (suc k) n lt =
    last (after next k n) refl ∙ ap (option_and_then other) (after_same most next other leads same k n lt)
  where
    last : (o : Option ℕ) → after next k n ≡ o → option_and_then next o ≡ option_and_then other o
    last None e = refl
    last (Some q) e = same q (after_below most next leads k n q lt e)
