-- The numbers of a range that pass a test.
use Rattle.std.proofs.Common.{◌≡◌, ◌∙◌, ℕ, zero, suc, ◌+◌, ◌<◌, ◌≤◌, Bool, true, false, cond, List, [], ◌∷◌, ◌++◌, map, sym, ap, arith, add-one, append-nil, append_assoc}
use Rattle.std.specs.List.{All, AllByRecursion, filter, range_with_len}
use Rattle.std.proofs.lemmas.List.{map_push}
use Rattle.std.proofs.lemmas.List.Elements.{All-filter, All-from_recursion, filter-append}

pub range-more : (a n : ℕ) → range_with_len a (n + 1) ≡ range_with_len a n ++ (a + n) ∷ []
range-more a n = rw add-one (go a n)
  where
    go : (a n : ℕ) → range_with_len a (suc n) ≡ range_with_len a n ++ (a + n) ∷ []
    go a zero = let e : a + 0 ≡ a = omega arith in ap (λ (k : ℕ). k ∷ []) (sym e)
    go a (suc n) = let e : a + 1 + n ≡ a + suc n = omega arith in ap (λ (ks : List ℕ). a ∷ ks)
        (go (a + 1) n ∙ ap (λ (k : ℕ). range_with_len (a + 1) n ++ k ∷ []) e)

-- one more that is made of the next number
pub mapped-range_more : {A : Type 0} (make : ℕ → A) (before done more : List A) (n : ℕ) (x : A) → more ≡ done ++ x ∷ []
    → done ≡ before ++ map make (range_with_len 0 n) → x ≡ make n → more ≡ before ++ map make (range_with_len 0 (n + 1))
mapped-range_more make before done more n x added h is =
    let so_far = map make (range_with_len 0 n) in
    let e : 0 + n ≡ n = omega arith in
    let next = ap (map make) (range-more 0 n ∙ ap (λ (k : ℕ). range_with_len 0 n ++ k ∷ []) e) ∙ map_push make (range_with_len 0 n) n in
    added ∙ ap (λ l. l ++ x ∷ []) h ∙ append_assoc before so_far (x ∷ []) ∙ ap (λ y. before ++ (so_far ++ y ∷ [])) is ∙ ap (λ l. before ++ l) (sym next)

pub filter-range_more : (p : ℕ → Bool) (n : ℕ) → filter p (range_with_len 0 (n + 1)) ≡ filter p (range_with_len 0 n) ++ cond (p n) (n ∷ []) []
filter-range_more p n =
    let e : 0 + n ≡ n = omega arith in
    ap (filter p) (range-more 0 n ∙ ap (λ (k : ℕ). range_with_len 0 n ++ k ∷ []) e) ∙ filter-append p (range_with_len 0 n) (n ∷ [])

pub filter-range_taken : (p : ℕ → Bool) (n : ℕ) (done : List ℕ) → p n ≡ true → done ≡ filter p (range_with_len 0 n)
    → done ++ n ∷ [] ≡ filter p (range_with_len 0 (n + 1))
filter-range_taken p n done holds h = (λ i. h i ++ n ∷ []) ∙ sym (filter-range_more p n
    ∙ ap (λ (b : Bool). filter p (range_with_len 0 n) ++ cond b (n ∷ []) []) holds)

pub filter-range_passed : (p : ℕ → Bool) (n : ℕ) (done : List ℕ) → p n ≡ false → done ≡ filter p (range_with_len 0 n)
    → done ≡ filter p (range_with_len 0 (n + 1))
filter-range_passed p n done fails h = h ∙ sym (filter-range_more p n ∙ ap (λ (b : Bool). filter p (range_with_len 0 n) ++ cond b (n ∷ []) []) fails
    ∙ append-nil (filter p (range_with_len 0 n)))

range-below : (a n most : ℕ) → a + n ≤ most → AllByRecursion (λ i. i < most) (range_with_len a n)
range-below a zero most h = tt
range-below a (suc n) most h = (omega (arith, h), range-below (a + 1) n most (omega (arith, h)))

-- those of a range from 0 are below its length
pub filter-range_below : (p : ℕ → Bool) (n : ℕ) → All (λ i. i < n) (filter p (range_with_len 0 n))
filter-range_below p n =
    All-filter p (λ i. i < n) (range_with_len 0 n)
    (All-from_recursion (λ i. i < n) (range_with_len 0 n) (range-below 0 n n (omega arith)))
