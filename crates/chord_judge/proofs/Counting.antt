-- Counts and first places over the numbers of the nodes.
use Rattle.std.proofs.Common.{◌≡◌, ◌⊎◌, inl, inr, ℕ, zero, suc, ◌+◌, ◌<◌, ◌≤◌, Bool, true, false, cond, [], Some, None, refl, sym, ap, ◌∙◌, add-one, arith, count_by, length}
use Rattle.std.specs.List.{find, range_with_len}
use Rattle.std.proofs.lemmas.Bool.{cases_eq, false≢true}
use Rattle.std.proofs.lemmas.List.Sums.{count_by-le-length, sum_by-cons}
use Rattle.std.proofs.lemmas.List.FromFn.{length-range_with_len}
use Rattle.chord_audit.proofs.Lists.{count_same}

pub find_only : (p : ℕ → Bool) (x a n : ℕ) → a ≤ x → x < a + n → p x ≡ true → ((y : ℕ) → a ≤ y → y < a + n → p y ≡ true → y ≡ x) → find p (range_with_len a n) ≡ Some x
find_only p x a zero low high holds only = absurd (omega arith)
find_only p x a (suc n) low high holds only =
    by_first (λ apart. find_only p x (a + 1) n (omega (arith, apart)) (omega arith) holds (λ y l h t. only y (omega arith) (omega arith) t)) (p a) refl
  where
    by_first : ((a ≡ x → ⊥) → find p (range_with_len (a + 1) n) ≡ Some x) → (b : Bool) → p a ≡ b → find p (range_with_len a (suc n)) ≡ Some x
    by_first rest true e = let same : a ≡ x = only a (omega arith) (omega arith) e in rw e (ap (λ (k : ℕ). Some k) same)
    by_first rest false e = rw e (rest (λ s. false≢true (sym e ∙ ap p s ∙ holds)))

pub find_none : (p : ℕ → Bool) (a n : ℕ) → ((y : ℕ) → a ≤ y → y < a + n → p y ≡ false) → find p (range_with_len a n) ≡ None
find_none p a zero none = refl
find_none p a (suc n) none =
    let first : p a ≡ false = none a (omega arith) (omega arith) in
    rw first (find_none p (a + 1) n (λ y l h. none y (omega arith) (omega arith)))

pub count_none : (p : ℕ → Bool) (a n : ℕ) → ((y : ℕ) → a ≤ y → y < a + n → p y ≡ false) → count_by p (range_with_len a n) ≡ 0
count_none p a zero none = refl
count_none p a (suc n) none =
    let first : p a ≡ false = none a (omega arith) (omega arith) in
    let rest : count_by p (range_with_len (a + 1) n) ≡ 0 = count_none p (a + 1) n (λ y l h. none y (omega arith) (omega arith)) in
    let parts : count_by p (range_with_len a (suc n)) ≡ cond (p a) 1 0 + count_by p (range_with_len (a + 1) n) = sum_by-cons (λ x. cond (p x) 1 0) a (range_with_len (a + 1) n) in
    let nothing : ◌≡◌ {A = ℕ} (cond (p a) 1 0) 0 = ap (λ b. cond {A = ℕ} b 1 0) first in
    omega (arith, parts, nothing, rest)

parts : (p : ℕ → Bool) (a n : ℕ) → count_by p (range_with_len a (suc n)) ≡ 0 → cond (p a) 1 0 + count_by p (range_with_len (a + 1) n) ≡ 0
parts p a n none = sym (sum_by-cons (λ x. cond (p x) 1 0) a (range_with_len (a + 1) n)) ∙ none

pub count_zero : (p : ℕ → Bool) (a n : ℕ) → count_by p (range_with_len a n) ≡ 0 → (y : ℕ) → a ≤ y → y < a + n → p y ≡ false
count_zero p a zero none y low high = absurd (omega arith)
count_zero p a (suc n) none y low high =
    by_place (λ apart. count_zero p (a + 1) n (omega (arith, parts p a n none)) y (omega (arith, apart)) (omega arith)) (cases_eq a y)
  where
    by_first : (b : Bool) → p a ≡ b → p a ≡ false
    by_first false e = e
    by_first true e =
        let one : ◌≡◌ {A = ℕ} (cond (p a) 1 0) 1 = ap (λ b. cond {A = ℕ} b 1 0) e in let all = parts p a n none in absurd (omega (arith, all, one))

    by_place : ((a ≡ y → ⊥) → p y ≡ false) → (a ≡ y) ⊎ (a ≡ y → ⊥) → p y ≡ false
    by_place rest (inl same) = sym (ap p same) ∙ by_first (p a) refl
    by_place rest (inr apart) = rest apart

-- tests that differ at one number alone
pub count_changed : (p q : ℕ → Bool) (m a n : ℕ) → a ≤ m → m < a + n → ((y : ℕ) → (y ≡ m → ⊥) → p y ≡ q y)
    → count_by p (range_with_len a n) + cond (q m) 1 0 ≡ count_by q (range_with_len a n) + cond (p m) 1 0
count_changed p q m a zero low high same = absurd (omega arith)
count_changed p q m a (suc n) low high same = by_place (λ apart. count_changed p q m (a + 1) n (omega (arith, apart)) (omega arith) same) (cases_eq a m)
  where
    pp : count_by p (range_with_len a (suc n)) ≡ cond (p a) 1 0 + count_by p (range_with_len (a + 1) n)
    pp = sum_by-cons (λ x. cond (p x) 1 0) a (range_with_len (a + 1) n)

    qq : count_by q (range_with_len a (suc n)) ≡ cond (q a) 1 0 + count_by q (range_with_len (a + 1) n)
    qq = sum_by-cons (λ x. cond (q x) 1 0) a (range_with_len (a + 1) n)

    by_place : ((a ≡ m → ⊥) → count_by p (range_with_len (a + 1) n) + cond (q m) 1 0 ≡ count_by q (range_with_len (a + 1) n) + cond (p m) 1 0)
        → (a ≡ m) ⊎ (a ≡ m → ⊥) → count_by p (range_with_len a (suc n)) + cond (q m) 1 0 ≡ count_by q (range_with_len a (suc n)) + cond (p m) 1 0
    by_place later (inl here) =
        let rest : count_by p (range_with_len (a + 1) n) ≡ count_by q (range_with_len (a + 1) n) = count_same p q (a + 1) n (λ y l h. same y (λ e. absurd (omega (arith, e, here)))) in
        let pm : ◌≡◌ {A = ℕ} (cond (p a) 1 0) (cond (p m) 1 0) = ap (λ k. cond {A = ℕ} (p k) 1 0) here in
        let qm : ◌≡◌ {A = ℕ} (cond (q a) 1 0) (cond (q m) 1 0) = ap (λ k. cond {A = ℕ} (q k) 1 0) here in
        omega (arith, pp, qq, rest, pm, qm)
    by_place later (inr apart) =
        let rest = later apart in
        let first : ◌≡◌ {A = ℕ} (cond (p a) 1 0) (cond (q a) 1 0) = ap (λ b. cond {A = ℕ} b 1 0) (same a apart) in
        omega (arith, pp, qq, rest, first)

pub count_more : (p : ℕ → Bool) (a n j : ℕ) → a + n ≡ j → count_by p (range_with_len a (suc n)) ≡ count_by p (range_with_len a n) + cond (p j) 1 0
count_more p a zero j at =
    let first : count_by p (range_with_len a 1) ≡ cond (p a) 1 0 + count_by p [] = sum_by-cons (λ x. cond (p x) 1 0) a [] in
    let nothing : count_by p [] ≡ 0 = refl in
    let same : ◌≡◌ {A = ℕ} (cond (p a) 1 0) (cond (p j) 1 0) = ap (λ k. cond {A = ℕ} (p k) 1 0) (omega (arith, at)) in
    omega (arith, first, nothing, same)
count_more p a (suc n) j at =
    let whole : count_by p (range_with_len a (suc (suc n))) ≡ cond (p a) 1 0 + count_by p (range_with_len (a + 1) (suc n)) =
    sum_by-cons (λ x. cond (p x) 1 0) a (range_with_len (a + 1) (suc n)) in
    let part : count_by p (range_with_len a (suc n)) ≡ cond (p a) 1 0 + count_by p (range_with_len (a + 1) n) = sum_by-cons (λ x. cond (p x) 1 0) a (range_with_len (a + 1) n) in
    let rest : count_by p (range_with_len (a + 1) (suc n)) ≡ count_by p (range_with_len (a + 1) n) + cond (p j) 1 0 = count_more p (a + 1) n j (omega (arith, at)) in
    omega (arith, whole, part, rest)

pub count_next : (p : ℕ → Bool) (n : ℕ) → count_by p (range_with_len 0 (n + 1)) ≡ count_by p (range_with_len 0 n) + cond (p n) 1 0
count_next p n = ap (λ (k : ℕ). count_by p (range_with_len 0 k)) (add-one n) ∙ count_more p 0 n n (omega arith)

pub count_most : (p : ℕ → Bool) (n : ℕ) → count_by p (range_with_len 0 n) ≤ n
count_most p n =
    let few : count_by p (range_with_len 0 n) ≤ length (range_with_len 0 n) = count_by-le-length p (range_with_len 0 n) in
    let all : length (range_with_len 0 n) ≡ n = length-range_with_len 0 n in omega (arith, few, all)
