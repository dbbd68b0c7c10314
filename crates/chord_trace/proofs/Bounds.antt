-- The greatest and the least of numbers: of two lists together, and by how many numbers are past it.
use Rattle.std.proofs.Common.{
  ◌≡◌,
  ◌≢◌,
  ◌∙◌,
  ℕ,
  ◌+◌,
  ◌≤◌,
  Bool,
  true,
  false,
  cond,
  nat_le,
  nat_lt,
  List,
  [],
  ◌∷◌,
  ◌++◌,
  refl,
  ap,
  sym,
  arith,
  append-nil,
  count_by,
  fold,
  length,
  max,
  min,
}
use Rattle.std.proofs.lemmas.Bool.Decides.{nat_tests}
use Rattle.std.proofs.lemmas.List.Sums.{fold-append, sum_by-cons}
use Rattle.chord_trace.specs.Numbers.{greatest, least}

abbrev above : ℕ → List ℕ → ℕ
above k ns = count_by (λ n. nat_lt k n) ns

abbrev below : ℕ → List ℕ → ℕ
below k ns = count_by (λ n. nat_lt n k) ns

above-cons : (k n : ℕ) (ns : List ℕ) → above k (n ∷ ns) ≡ cond (nat_lt k n) 1 0 + above k ns
above-cons k n ns = sum_by-cons (λ m. cond (nat_lt k m) 1 0) n ns

below-cons : (k n : ℕ) (ns : List ℕ) → below k (n ∷ ns) ≡ cond (nat_lt n k) 1 0 + below k ns
below-cons k n ns = sum_by-cons (λ m. cond (nat_lt m k) 1 0) n ns

max-fold : (a : ℕ) (ns : List ℕ) → fold max a ns ≡ max a (greatest ns)
max-fold a [] = omega arith
max-fold a (n ∷ ns) = omega (arith, max-fold (max a n) ns, max-fold (max 0 n) ns)

min-fold : (a b : ℕ) (ns : List ℕ) → fold min (min a b) ns ≡ min a (fold min b ns)
min-fold a b [] = refl
min-fold a b (n ∷ ns) =
    let assoc : min (min a b) n ≡ min a (min b n) = omega arith in
    ap (λ m. fold min m ns) assoc ∙ min-fold a (min b n) ns

pub greatest-append : (xs ys : List ℕ) → greatest (xs ++ ys) ≡ max (greatest xs) (greatest ys)
greatest-append xs ys = fold-append max 0 xs ys ∙ max-fold (greatest xs) ys

pub least_of_second : (xs ys : List ℕ) → length xs ≡ 0 → least (xs ++ ys) ≡ least ys
least_of_second [] ys none = refl
least_of_second (x ∷ xs) ys none = absurd (omega (arith, none))

pub least_of_first : (xs ys : List ℕ) → length ys ≡ 0 → least (xs ++ ys) ≡ least xs
least_of_first xs [] none = ap least (append-nil xs)
least_of_first xs (y ∷ ys) none = absurd (omega (arith, none))

pub least_of_both : (xs ys : List ℕ) → length xs ≢ 0 → length ys ≢ 0 → least (xs ++ ys) ≡ min (least xs) (least ys)
least_of_both [] ys some more = absurd (some refl)
least_of_both (x ∷ xs) [] some more = absurd (more refl)
least_of_both (x ∷ xs) (y ∷ ys) some more = fold-append min x xs (y ∷ ys) ∙ min-fold (fold min x xs) y ys

greatest-le : (ns : List ℕ) (k : ℕ) → above k ns ≡ 0 → greatest ns ≤ k
greatest-le [] k none = omega arith
greatest-le (n ∷ ns) k none = go (nat_lt k n) refl (greatest-le ns k (omega (arith, none, above-cons k n ns)))
  where
    go : (b : Bool) → nat_lt k n ≡ b → greatest ns ≤ k → fold max (max 0 n) ns ≤ k
    go true e rest = absurd (omega (arith, none, above-cons k n ns, ap (λ c. cond {A = ℕ} c 1 0) e))
    go false e rest =
        let le : n ≤ k = grind (arith, nat_tests) in
        omega (arith, le, max-fold (max 0 n) ns, rest)

none_above : (ns : List ℕ) (k : ℕ) → greatest ns ≤ k → above k ns ≡ 0
none_above [] k le = refl
none_above (n ∷ ns) k le =
    let most = max-fold (max 0 n) ns in
    let not_lt : nat_lt k n ≡ false = let small : n ≤ k = omega (arith, le, most) in grind (arith, nat_tests) in
    omega (arith, above-cons k n ns, ap (λ c. cond {A = ℕ} c 1 0) not_lt, none_above ns k (omega (arith, le, most)))

-- lists with the same count of numbers past each bound have the same greatest number
pub same_greatest : (xs ys : List ℕ) → ((k : ℕ) → above k xs ≡ above k ys) → greatest xs ≡ greatest ys
same_greatest xs ys same =
    let one = greatest-le xs (greatest ys) (same (greatest ys) ∙ none_above ys (greatest ys) (omega arith)) in
    let other = greatest-le ys (greatest xs) (sym (same (greatest xs)) ∙ none_above xs (greatest xs) (omega arith)) in
    omega (arith, one, other)

le-fold : (a k : ℕ) (ns : List ℕ) → k ≤ a → below k ns ≡ 0 → k ≤ fold min a ns
le-fold a k [] le none = le
le-fold a k (n ∷ ns) le none = go (nat_lt n k) refl (λ low. le-fold (min a n) k ns low (omega (arith, none, below-cons k n ns)))
  where
    go : (b : Bool) → nat_lt n k ≡ b → (k ≤ min a n → k ≤ fold min (min a n) ns) → k ≤ fold min (min a n) ns
    go true e rest = absurd (omega (arith, none, below-cons k n ns, ap (λ c. cond {A = ℕ} c 1 0) e))
    go false e rest =
        let high : k ≤ n = grind (arith, nat_tests) in
        rest (omega (arith, le, high))

fold-le : (a k : ℕ) (ns : List ℕ) → k ≤ fold min a ns → (k ≤ a) × (below k ns ≡ 0)
fold-le a k [] le = (le, refl)
fold-le a k (n ∷ ns) le =
    let rest = fold-le (min a n) k ns le in
    let not_lt : nat_lt n k ≡ false = let high : k ≤ n = omega (arith, rest.0) in grind (arith, nat_tests) in
    (omega (arith, rest.0), omega (arith, below-cons k n ns, ap (λ c. cond {A = ℕ} c 1 0) not_lt, rest.1))

least-le : (x : ℕ) (xs : List ℕ) (k : ℕ) → k ≤ least (x ∷ xs) → below k (x ∷ xs) ≡ 0
least-le x xs k le =
    let all = fold-le x k xs le in
    let not_lt : nat_lt x k ≡ false = let high = all.0 in grind (arith, nat_tests) in
    omega (arith, below-cons k x xs, ap (λ c. cond {A = ℕ} c 1 0) not_lt, all.1)

le-least : (x : ℕ) (xs : List ℕ) (k : ℕ) → below k (x ∷ xs) ≡ 0 → k ≤ least (x ∷ xs)
le-least x xs k none = go (nat_lt x k) refl
  where
    go : (b : Bool) → nat_lt x k ≡ b → k ≤ fold min x xs
    go true e = absurd (omega (arith, none, below-cons k x xs, ap (λ c. cond {A = ℕ} c 1 0) e))
    go false e =
        let high : k ≤ x = grind (arith, nat_tests) in
        le-fold x k xs high (omega (arith, none, below-cons k x xs))

-- lists of one length with the same count of numbers past each bound have the same least number
pub same_least : (xs ys : List ℕ) → length xs ≡ length ys → ((k : ℕ) → below k xs ≡ below k ys) → least xs ≡ least ys
same_least [] [] len same = refl
same_least [] (y ∷ ys) len same = absurd (omega (arith, len))
same_least (x ∷ xs) [] len same = absurd (omega (arith, len))
same_least (x ∷ xs) (y ∷ ys) len same =
    let one = le-least x xs (least (y ∷ ys)) (same (least (y ∷ ys)) ∙ least-le y ys (least (y ∷ ys)) (omega arith)) in
    let other = le-least y ys (least (x ∷ xs)) (sym (same (least (x ∷ xs))) ∙ least-le x xs (least (x ∷ xs)) (omega arith)) in
    omega (arith, one, other)

-- no number is past a bound of the greatest
pub all_up_to : (k : ℕ) (ns : List ℕ) → greatest ns ≤ k → count_by (λ n. nat_le n k) ns ≡ length ns
all_up_to k [] le = refl
all_up_to k (n ∷ ns) le =
    let both = max-fold (max 0 n) ns in
    let up_to : n ≤ k = omega (arith, both, le) in
    let is_le : nat_le n k ≡ true = grind (arith, nat_tests) in
    let rest = all_up_to k ns (omega (arith, both, le)) in
    omega (arith, sum_by-cons (λ m. cond (nat_le m k) 1 0) n ns, ap {B = ℕ} (λ b. cond b 1 0) is_le, rest)
