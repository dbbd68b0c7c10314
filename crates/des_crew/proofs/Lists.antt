-- Views at a place of a list, and sums over them.
use Rattle.std.proofs.Common.{◌≡◌, ◌≢◌, ℕ, zero, suc, ◌+◌, ◌<◌, ◌≤◌, List, [], ◌∷◌, length, get_or, set, ap, sym, subst, arith}
use Rattle.std.specs.Prelude.{All, sum_by, slice_get, Some}
use Rattle.std.proofs.lemmas.List.Sums.{get_or-le-sum_by, sum_by-cons, sum_by-set}
use mathlib.Core.Option.{some, some-injective, some-ne-none}
use lib.ListN.{get_elem?}

module _ {A : Type 0} where
  -- a place that has an element
  pub get_or-at : (xs : List A) (k : ℕ) (v d : A) → get_elem? xs k ≡ some v → (k < length xs) × (get_or xs k d ≡ v)
  get_or-at [] k v d e = absurd (some-ne-none v (sym e))
  get_or-at (x ∷ xs) zero v d e = (omega arith, some-injective x v e)
  get_or-at (x ∷ xs) (suc k) v d e = let h = get_or-at xs k v d e in (omega arith, h.1)

  pub All-at : (P : A → Type 0) (xs : List A) (k : ℕ) (v : A) → get_elem? xs k ≡ some v → All P xs → P v
  All-at P xs k v e all = let h = get_or-at xs k v v e in subst P h.1 (all k v h.0)

  -- the sum after one element was replaced
  pub sum_by-replaced : (f : A → ℕ) (xs : List A) (k : ℕ) (v w : A) → get_elem? xs k ≡ some v → sum_by f (set xs k w) + f v ≡ sum_by f xs + f w
  sum_by-replaced f xs k v w e = let h = get_or-at xs k v v e in subst (λ (u : A). sum_by f (set xs k w) + f u ≡ sum_by f xs + f w) h.1
      (sum_by-set f xs k w v h.0)

  -- one element is within the sum
  pub sum_by-at : (f : A → ℕ) (xs : List A) (k : ℕ) (v : A) → get_elem? xs k ≡ some v → f v ≤ sum_by f xs
  sum_by-at f xs k v e = let h = get_or-at xs k v v e in subst (λ (u : A). f u ≤ sum_by f xs) h.1 (get_or-le-sum_by f xs k v h.0)

  -- two elements are within the sum
  pub sum_by-two : (f : A → ℕ) (xs : List A) (j k : ℕ) (v w : A) → get_elem? xs j ≡ some v → get_elem? xs k ≡ some w → k ≢ j → f v + f w ≤ sum_by f xs
  sum_by-two f [] j k v w e h apart = absurd (some-ne-none v (sym e))
  sum_by-two f (x ∷ xs) zero zero v w e h apart = absurd (apart (λ i. 0))
  sum_by-two f (x ∷ xs) zero (suc k) v w e h apart = subst (λ (u : A). f u + f w ≤ sum_by f (x ∷ xs)) (some-injective x v e)
      (omega (arith, sum_by-cons f x xs, sum_by-at f xs k w h))
  sum_by-two f (x ∷ xs) (suc j) zero v w e h apart = subst (λ (u : A). f v + f u ≤ sum_by f (x ∷ xs)) (some-injective x w h)
      (omega (arith, sum_by-cons f x xs, sum_by-at f xs j v e))
  sum_by-two f (x ∷ xs) (suc j) (suc k) v w e h apart = omega (arith, sum_by-cons f x xs, sum_by-two f xs j k v w e h (λ s. apart (λ i. suc (s i))))

  -- if one element has the whole sum of `g`, and `f` is 0 if `g` is, it has the whole sum of `f`
  sum_by-none : (f g : A → ℕ) (xs : List A) → sum_by g xs ≡ 0 → ((k : ℕ) (u : A) → get_elem? xs k ≡ some u → g u ≡ 0 → f u ≡ 0) → sum_by f xs ≡ 0
  sum_by-none f g [] none zero_too = λ i. 0
  sum_by-none f g (x ∷ xs) none zero_too =
      let here : f x ≡ 0 = zero_too 0 x (λ i. some x) (omega (arith, sum_by-cons g x xs)) in
      let there : sum_by f xs ≡ 0 = sum_by-none f g xs (omega (arith, sum_by-cons g x xs)) (λ k u e. zero_too (suc k) u e) in
      omega (arith, sum_by-cons f x xs)

  pub sum_by-whole : (f g : A → ℕ) (xs : List A) (k : ℕ) (v : A) → get_elem? xs k ≡ some v → sum_by g xs ≡ g v
      → ((k : ℕ) (u : A) → get_elem? xs k ≡ some u → g u ≡ 0 → f u ≡ 0) → sum_by f xs ≡ f v
  sum_by-whole f g [] k v e whole zero_too = absurd (some-ne-none v (sym e))
  sum_by-whole f g (x ∷ xs) zero v e whole zero_too =
      let is : x ≡ v = some-injective x v e in
      let same : g x ≡ g v = λ i. g (is i) in
      let rest : sum_by f xs ≡ 0 = sum_by-none f g xs (omega (arith, sum_by-cons g x xs)) (λ j u h. zero_too (suc j) u h) in
      let value : f x ≡ f v = λ i. f (is i) in
      omega (arith, sum_by-cons f x xs)
  sum_by-whole f g (x ∷ xs) (suc k) v e whole zero_too =
      let within = sum_by-at g xs k v e in
      let here : f x ≡ 0 = zero_too 0 x (λ i. some x) (omega (arith, sum_by-cons g x xs)) in
      let there : sum_by f xs ≡ f v = sum_by-whole f g xs k v e (omega (arith, sum_by-cons g x xs)) (λ j u h. zero_too (suc j) u h) in
      omega (arith, sum_by-cons f x xs)

  -- the two look-ups find the same
  pub slice_get-from_get_elem : (xs : List A) (k : ℕ) (v : A) → get_elem? xs k ≡ some v → slice_get xs k ≡ Some v
  slice_get-from_get_elem [] k v e = absurd (some-ne-none v (sym e))
  slice_get-from_get_elem (x ∷ xs) zero v e = ap Some (some-injective x v e)
  slice_get-from_get_elem (x ∷ xs) (suc k) v e = slice_get-from_get_elem xs k v e

  pub get_elem-from_slice_get : (xs : List A) (k : ℕ) (v : A) → slice_get xs k ≡ Some v → get_elem? xs k ≡ some v
  get_elem-from_slice_get [] k v e = absurd (cc)
  get_elem-from_slice_get (x ∷ xs) zero v e = let same : x ≡ v = cc in ap some same
  get_elem-from_slice_get (x ∷ xs) (suc k) v e = get_elem-from_slice_get xs k v e
