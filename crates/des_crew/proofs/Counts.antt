-- Lists of numbers, by how often they have each.
use Rattle.std.proofs.Common.{◌≡◌, ℕ, zero, suc, ◌+◌, ◌<◌, ◌≤◌, Bool, cond, eqb, ltb, List, [], ◌∷◌, ◌++◌, length, get_or, refl, ap, eq-eqb, arith}
use Rattle.std.proofs.lemmas.List.Sums.{sum_by_push}
use Rattle.std.proofs.lemmas.Bool.Decides.{nat_tests}
use Rattle.std.proofs.Math.Decide.{dec_lt}
use Rattle.des_parts.specs.Ordering.{count_of}
use Rattle.des_parts.proofs.Orders.{count_of-cons}

pub count_of-push : (x n : ℕ) (numbers : List ℕ) → count_of x (numbers ++ n ∷ []) ≡ count_of x numbers + cond (eqb n x) 1 0
count_of-push x n numbers = sum_by_push (λ y. cond (eqb y x) 1 0) numbers n

-- a number counts itself
pub counts_itself : (x : ℕ) → ◌≡◌ {A = ℕ} (cond (eqb x x) 1 0) 1
counts_itself x = ap (λ (b : Bool). cond b 1 0) (eq-eqb x x refl)

-- the number at a place is counted
pub counted_at : (numbers : List ℕ) (k d : ℕ) → k < length numbers → 0 < count_of (get_or numbers k d) numbers
counted_at [] k d in_range = absurd (omega arith)
counted_at (y ∷ ys) zero d in_range = omega (arith, count_of-cons y y ys, counts_itself y)
counted_at (y ∷ ys) (suc k) d in_range = omega (arith, count_of-cons (get_or ys k d) y ys, counted_at ys k d (omega arith))

-- how many of the numbers are below n
count_below : ℕ → List ℕ → ℕ
count_below zero numbers = 0
count_below (suc n) numbers = count_below n numbers + count_of n numbers

count_below-cons : (n y : ℕ) (ys : List ℕ) → count_below n (y ∷ ys) ≡ cond (ltb y n) 1 0 + count_below n ys
unfolding count_below
count_below-cons zero y ys = grind (arith, nat_tests)
count_below-cons (suc n) y ys = let before = count_below-cons n y ys in let here = count_of-cons n y ys in grind (arith, nat_tests)

count_below-le : (n : ℕ) (numbers : List ℕ) → ((x : ℕ) → count_of x numbers ≤ 1) → count_below n numbers ≤ n
unfolding count_below
count_below-le zero numbers once = omega arith
count_below-le (suc n) numbers once = omega (arith, count_below-le n numbers once, once n)

length-le-count_below : (n : ℕ) (numbers : List ℕ) → ((x : ℕ) → n ≤ x → count_of x numbers ≡ 0) → length numbers ≤ count_below n numbers
length-le-count_below n [] none = omega arith
length-le-count_below n (y ∷ ys) none =
    let below : y < n = in_range (dec_lt y n) in
    let rest : length ys ≤ count_below n ys = length-le-count_below n ys (λ x past. omega (arith, none x past, count_of-cons x y ys)) in
    let step = count_below-cons n y ys in
    grind (arith, nat_tests)
  where
    in_range : Dec (y < n) → y < n
    in_range (yes below) = below
    in_range (no past) = absurd (omega (arith, none y (omega arith), count_of-cons y y ys, counts_itself y))

-- numbers below n, none of them twice, are at most n
pub length-le : (n : ℕ) (numbers : List ℕ) → ((x : ℕ) → count_of x numbers ≤ 1) → ((x : ℕ) → n ≤ x → count_of x numbers ≡ 0) → length numbers ≤ n
length-le n numbers once none = omega (arith, length-le-count_below n numbers none, count_below-le n numbers once)
