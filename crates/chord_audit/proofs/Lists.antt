-- Tests and counts over the numbers of the nodes.
use Rattle.std.proofs.Common.{
  ◌≡◌,
  ℕ,
  zero,
  suc,
  ◌+◌,
  ◌-◌,
  ◌<◌,
  ◌≤◌,
  Bool,
  true,
  false,
  cond,
  ◌&&◌,
  ◌||◌,
  [],
  ◌∷◌,
  ◌++◌,
  List,
  get_or,
  length,
  map,
  take,
  refl,
  sym,
  ap,
  ◌∙◌,
  arith,
  add-one,
  zero-add,
  add-zero,
  count_by,
  Result,
  Ok,
  Err,
  IfOk,
}
use Rattle.std.specs.List.{list_any, range_with_len}
use Rattle.std.proofs.lemmas.List.{map_more}
use Rattle.std.proofs.lemmas.List.Folds.{list_any-append, list_any_at}
use Rattle.std.proofs.lemmas.List.FromFn.{length-range_with_len, get_or-range_with_len}
use Rattle.std.proofs.lemmas.List.Sums.{sum_by-cons, sum_by-append, count_by-le-length}

pub any_same : (p q : ℕ → Bool) (a n : ℕ) → ((x : ℕ) → a ≤ x → x < a + n → p x ≡ q x) → list_any p (range_with_len a n) ≡ list_any q (range_with_len a n)
any_same p q a zero h = refl
any_same p q a (suc n) h =
    let first : p a ≡ q a = h a (omega arith) (omega arith) in
    let rest : list_any p (range_with_len (a + 1) n) ≡ list_any q (range_with_len (a + 1) n) = any_same p q (a + 1) n
    (λ x le lt. h x (omega arith) (omega arith)) in
    ap (λ b. b || list_any p (range_with_len (a + 1) n)) first ∙ ap (λ b. q a || b) rest

pub count_same : (p q : ℕ → Bool) (a n : ℕ) → ((x : ℕ) → a ≤ x → x < a + n → p x ≡ q x) → count_by p (range_with_len a n) ≡ count_by q (range_with_len a n)
count_same p q a zero h = refl
count_same p q a (suc n) h =
    let first : p a ≡ q a = h a (omega arith) (omega arith) in
    let rest : count_by p (range_with_len (a + 1) n) ≡ count_by q (range_with_len (a + 1) n) = count_same p q (a + 1) n
    (λ x le lt. h x (omega arith) (omega arith)) in
    sum_by-cons (λ x. cond (p x) 1 0) a (range_with_len (a + 1) n)
    ∙ ap (λ b. cond b 1 0 + count_by p (range_with_len (a + 1) n)) first
    ∙ ap (λ k. cond (q a) 1 0 + k) rest
    ∙ sym (sum_by-cons (λ x. cond (q x) 1 0) a (range_with_len (a + 1) n))

pub range_more : (a n : ℕ) → range_with_len a (suc n) ≡ range_with_len a n ++ (a + n) ∷ []
range_more a zero = ap (λ k. k ∷ []) (omega arith)
range_more a (suc n) = ap (λ l. a ∷ l) (range_more (a + 1) n ∙ ap (λ k. range_with_len (a + 1) n ++ k ∷ []) (omega arith))

or_one : (a b : Bool) → (a || (b || false)) ≡ (a || b)
or_one a true = refl
or_one a false = refl

pub any_more : (p : ℕ → Bool) (n : ℕ) → list_any p (range_with_len 0 (n + 1)) ≡ (list_any p (range_with_len 0 n) || p n)
any_more p n =
    ap (λ k. list_any p (range_with_len 0 k)) (add-one n)
    ∙ ap (list_any p) (range_more 0 n)
    ∙ list_any-append p (range_with_len 0 n) ((0 + n) ∷ [])
    ∙ or_one (list_any p (range_with_len 0 n)) (p (0 + n))
    ∙ ap (λ k. list_any p (range_with_len 0 n) || p k) (zero-add n)

-- if some number passes there is one
pub any_found : (p : ℕ → Bool) (a n : ℕ) → list_any p (range_with_len a n) ≡ true → (x : ℕ) × (a ≤ x) × (x < a + n) × (p x ≡ true)
any_found p a zero h = absurd cc
any_found p a (suc n) h = found (λ r. any_found p (a + 1) n r) (p a) refl
  where
    found : (list_any p (range_with_len (a + 1) n) ≡ true → (x : ℕ) × (a + 1 ≤ x) × (x < a + 1 + n) × (p x ≡ true)) → (b : Bool) → p a ≡ b
        → (x : ℕ) × (a ≤ x) × (x < a + suc n) × (p x ≡ true)
    found more true e = (a, omega arith, omega arith, e)
    found more false e =
        let rest = more (sym (ap (λ b. b || list_any p (range_with_len (a + 1) n)) e) ∙ h) in
        let low : a + 1 ≤ rest.0 = rest.1 in
        let high : rest.0 < a + 1 + n = rest.2 in
        (rest.0, omega arith, omega arith, rest.3)

pub any_at : (p : ℕ → Bool) (a n x : ℕ) → a ≤ x → x < a + n → p x ≡ true → list_any p (range_with_len a n) ≡ true
any_at p a n x le lt h =
    let at : get_or (range_with_len a n) (x - a) 0 ≡ x = get_or-range_with_len a n (x - a) 0 (omega arith) ∙ omega arith in
    list_any_at p (range_with_len a n) (x - a) 0 (omega (arith, length-range_with_len a n)) (ap p at ∙ h)

-- two tests that each follow from the other
pub same_test : (a b : Bool) → (a ≡ true → b ≡ true) → (b ≡ true → a ≡ true) → a ≡ b
same_test true b f g = sym (f refl)
same_test false true f g = g refl
same_test false false f g = refl

-- what follows from what a clause says of a result
pub ok_then : {A E : Type 0} (r : Result A E) (P Q : A → Type 0) → IfOk r P → ((x : A) → P x → Q x) → IfOk r Q
ok_then (Ok x) P Q p f = f x p
ok_then (Err e) P Q p f = tt

-- a test of each number up to one more, by that of the number
pub one_more : (p : ℕ → Bool) (n : ℕ) (so_far now : Bool) → so_far ≡ list_any p (range_with_len 0 n) → now ≡ (so_far || p n)
    → now ≡ list_any p (range_with_len 0 (n + 1))
one_more p n so_far now is more = more ∙ ap (λ b. b || p n) is ∙ sym (any_more p n)

pub or_none : (a b : Bool) → b ≡ false → a ≡ (a || b)
or_none true b h = refl
or_none false b h = sym h

-- how many of the numbers up to one more pass
pub count_more : (p : ℕ → Bool) (n : ℕ) → count_by p (range_with_len 0 (n + 1)) ≡ count_by p (range_with_len 0 n) + cond (p n) 1 0
count_more p n =
    ap (λ k. count_by p (range_with_len 0 k)) (add-one n)
    ∙ ap (count_by p) (range_more 0 n)
    ∙ sum_by-append (λ x. cond (p x) 1 0) (range_with_len 0 n) ((0 + n) ∷ [])
    ∙ ap (λ k. count_by p (range_with_len 0 n) + k) (zero-add (cond (p (0 + n)) 1 0))
    ∙ ap (λ k. count_by p (range_with_len 0 n) + cond (p k) 1 0) (zero-add n)

pub counts_one : (p : ℕ → Bool) (n count : ℕ) → count ≡ count_by p (range_with_len 0 n) → p n ≡ true → count + 1 ≡ count_by p (range_with_len 0 (n + 1))
counts_one p n count is h = ap (λ k. k + 1) is ∙ sym (count_more p n ∙ ap (λ b. count_by p (range_with_len 0 n) + cond b 1 0) h)

pub counts_none : (p : ℕ → Bool) (n count : ℕ) → count ≡ count_by p (range_with_len 0 n) → p n ≡ false → count ≡ count_by p (range_with_len 0 (n + 1))
counts_none p n count is h = is ∙ sym (count_more p n ∙ ap (λ b. count_by p (range_with_len 0 n) + cond b 1 0) h ∙ add-zero (count_by p (range_with_len 0 n)))

pub counts_below : (p : ℕ → Bool) (n count : ℕ) → count ≡ count_by p (range_with_len 0 n) → count ≤ n
counts_below p n count is = omega (arith, is, count_by-le-length p (range_with_len 0 n), length-range_with_len 0 n)

pub both_true : (a b : Bool) → a ≡ true → b ≡ true → (a && b) ≡ true
both_true a b h k = ap (λ c. c && b) h ∙ k

pub second_false : (a b : Bool) → b ≡ false → (a && b) ≡ false
second_false true b h = h
second_false false b h = refl

pub first_false : (a b : Bool) → a ≡ false → (a && b) ≡ false
first_false a b h = ap (λ c. c && b) h

pub first_true : (a b : Bool) → (a && b) ≡ true → a ≡ true
first_true true b h = refl
first_true false b h = absurd cc

pub second_true : (a b : Bool) → (a && b) ≡ true → b ≡ true
second_true true b h = h
second_true false b h = absurd cc

pub none_more : (p : ℕ → Bool) (n : ℕ) → list_any p (range_with_len 0 n) ≡ false → p n ≡ false → list_any p (range_with_len 0 (n + 1)) ≡ false
none_more p n so_far h = any_more p n ∙ ap (λ b. b || p n) so_far ∙ h

-- a list of what a function makes of the elements so far, and of the next one
pub maps_more : {A B : Type 0} (f : A → B) (xs : List A) (i : ℕ) (d x : A) (y : B) (ys zs : List B)
    → i < length xs → x ≡ get_or xs i d → y ≡ f x → ys ≡ map f (take i xs) → zs ≡ ys ++ y ∷ [] → zs ≡ map f (take (i + 1) xs)
maps_more f xs i d x y ys zs lt item is so_far pushed =
    pushed ∙ ap (λ l. l ++ y ∷ []) so_far ∙ ap (λ e. map f (take i xs) ++ e ∷ []) (is ∙ ap f item) ∙ sym (map_more f xs i d lt)
