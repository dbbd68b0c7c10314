-- Lists in the order of their keys.
use Rattle.std.proofs.Common.{◌≡◌, ◌≢◌, ◌⊎◌, ⊎_elim, inl, inr, ℕ, ◌<◌, ◌≤◌, Bool, true, false, not, cond, nat_lt, List, [], ◌∷◌, ◌++◌, refl, sym, ap, ◌∙◌, subst, arith, lt-ltb, le-ltb, append-nil, Some, None, option_map, slice_get}
use Rattle.std.specs.List.{AllByRecursion, Contains}
use Rattle.std.proofs.lemmas.List.Elements.{filter-append}
use Rattle.des_event.specs.declared.key.Key.{Key}
use Rattle.des_event.specs.Keys.{IsBefore, is_before}
use Rattle.des_event.specs.KeyOrder.{InKeyOrder, IsNewKey, put_in_order, before, from_on}
use Rattle.des_event.proofs.Members.{contains_cons, contains_here, contains_none, contains_there}
use Rattle.des_event.proofs.Order.{before_trans, before_not_same, before_not_after, at_most_from_before, before_from_at_most, is_before-true, is_before-false}

-- x is an item of xs
abbrev pub IsIn : {A : Type 0} → A → List A → Type 0
IsIn x [] = ⊥
IsIn x (y ∷ ys) = (x ≡ y) ⊎ IsIn x ys

pub IsIn-from_Contains : {A : Type 0} (xs : List A) (x : A) → Contains xs x → IsIn x xs
IsIn-from_Contains [] x c = absurd (contains_none x c)
IsIn-from_Contains (y ∷ xs) x c = ⊎_elim (λ e. inl (sym e)) (λ r. inr (IsIn-from_Contains xs x r)) (contains_cons x y xs c)

pub Contains-from_IsIn : {A : Type 0} (xs : List A) (x : A) → IsIn x xs → Contains xs x
Contains-from_IsIn [] x c = absurd c
Contains-from_IsIn (y ∷ xs) x (inl e) = subst (λ z. Contains (y ∷ xs) z) (sym e) (contains_here y xs)
Contains-from_IsIn (y ∷ xs) x (inr r) = contains_there x y xs (Contains-from_IsIn xs x r)

pub all_in : {A : Type 0} (P : A → Type 0) (xs : List A) → AllByRecursion P xs → (z : A) → IsIn z xs → P z
all_in P [] all z h = absurd h
all_in P (x ∷ xs) all z (inl e) = subst P (sym e) all.0
all_in P (x ∷ xs) all z (inr h) = all_in P xs all.1 z h

pub all_from : {A : Type 0} (P : A → Type 0) (xs : List A) → ((z : A) → IsIn z xs → P z) → AllByRecursion P xs
all_from P [] f = tt
all_from P (x ∷ xs) f = (f x (inl refl), all_from P xs (λ z h. f z (inr h)))

module _ {A : Type 0} (key_of : A → Key) where
  put_at_in : (x y : A) (ys rest : List A) (z : A) → (IsIn z rest → (z ≡ x) ⊎ IsIn z ys) → (b : Bool) → IsIn z (cond b (x ∷ (y ∷ ys)) (y ∷ rest))
      → (z ≡ x) ⊎ IsIn z (y ∷ ys)
  put_at_in x y ys rest z on true h = h
  put_at_in x y ys rest z on false (inl s) = inr (inl s)
  put_at_in x y ys rest z on false (inr h) = elim (on h) [ inl s ↦ inl s | inr k ↦ inr (inr k) ]

  -- what is in the list after x was inserted
  pub in_put : (x : A) (xs : List A) (z : A) → IsIn z (put_in_order key_of x xs) → (z ≡ x) ⊎ IsIn z xs
  in_put x [] z h = h
  in_put x (y ∷ ys) z h = put_at_in x y ys (put_in_order key_of x ys) z (in_put x ys z) (is_before (key_of x) (key_of y)) h

  in_put_at : (x y : A) (ys rest : List A) (z : A) → ((z ≡ x) ⊎ IsIn z ys → IsIn z rest) → (b : Bool) → (z ≡ x) ⊎ IsIn z (y ∷ ys)
      → IsIn z (cond b (x ∷ (y ∷ ys)) (y ∷ rest))
  in_put_at x y ys rest z on true h = h
  in_put_at x y ys rest z on false (inl s) = inr (on (inl s))
  in_put_at x y ys rest z on false (inr (inl s)) = inl s
  in_put_at x y ys rest z on false (inr (inr k)) = inr (on (inr k))

  pub put_in : (x : A) (xs : List A) (z : A) → (z ≡ x) ⊎ IsIn z xs → IsIn z (put_in_order key_of x xs)
  put_in x [] z h = h
  put_in x (y ∷ ys) z h = in_put_at x y ys (put_in_order key_of x ys) z (put_in x ys z) (is_before (key_of x) (key_of y)) h

  -- what holds of x and of all items holds after x was inserted
  pub all_put : (P : A → Type 0) (x : A) (xs : List A) → P x → AllByRecursion P xs → AllByRecursion P (put_in_order key_of x xs)
  all_put P x xs here all =
      all_from P (put_in_order key_of x xs) (λ z h. elim (in_put x xs z h) [ inl s ↦ subst P (sym s) here | inr k ↦ all_in P xs all z k ])

  pub new_put : (k : Key) (x : A) (xs : List A) → key_of x ≢ k → IsNewKey key_of k xs → IsNewKey key_of k (put_in_order key_of x xs)
  new_put k x xs here all = all_put (λ y. key_of y ≢ k) x xs here all

  ordered_at : (x y : A) (ys rest : List A) → ((z : A) → IsIn z rest → (z ≡ x) ⊎ IsIn z ys) → InKeyOrder key_of rest → InKeyOrder key_of (y ∷ ys)
      → key_of y ≢ key_of x → (b : Bool) → is_before (key_of x) (key_of y) ≡ b → InKeyOrder key_of (cond b (x ∷ (y ∷ ys)) (y ∷ rest))
  ordered_at x y ys rest on ordered o new true h =
      let first : IsBefore (key_of x) (key_of y) = is_before-true (key_of x) (key_of y) h in (
        (
          first,
          all_from (λ z. IsBefore (key_of x) (key_of z)) ys (λ z k. before_trans (key_of x) (key_of y) (key_of z) first
              (all_in (λ z. IsBefore (key_of y) (key_of z)) ys o.0 z k)),
        ),
        o,
      )
  ordered_at x y ys rest on ordered o new false h =
      let later : IsBefore (key_of y) (key_of x) = before_from_at_most (key_of y) (key_of x) (is_before-false (key_of x) (key_of y) h) new in (
        all_from (λ z. IsBefore (key_of y) (key_of z)) rest (λ z k. elim (on z k) [
          | inl s ↦ subst (λ (w : A). IsBefore (key_of y) (key_of w)) (sym s) later
          | inr j ↦ all_in (λ z. IsBefore (key_of y) (key_of z)) ys o.0 z j
        ]),
        ordered,
      )

  -- an item with a new key may be inserted
  pub ordered_put : (x : A) (xs : List A) → InKeyOrder key_of xs → IsNewKey key_of (key_of x) xs → InKeyOrder key_of (put_in_order key_of x xs)
  ordered_put x [] o new = (tt, tt)
  ordered_put x (y ∷ ys) o new = ordered_at x y ys (put_in_order key_of x ys) (in_put x ys) (ordered_put x ys o.1 new.1) o new.0
      (is_before (key_of x) (key_of y)) refl

  not_in_rest : (x : A) (xs : List A) → AllByRecursion (λ y. IsBefore (key_of x) (key_of y)) xs → (z : A) → IsIn z xs → z ≡ x → ⊥
  not_in_rest x xs all z k s =
      before_not_same (key_of x) (key_of z) (all_in (λ y. IsBefore (key_of x) (key_of y)) xs all z k) (ap key_of (sym s))

  -- two lists in key order with the same items are equal
  pub same_list : (xs ys : List A) → InKeyOrder key_of xs → InKeyOrder key_of ys → ((z : A) → IsIn z xs → IsIn z ys)
      → ((z : A) → IsIn z ys → IsIn z xs) → xs ≡ ys
  same_list [] [] o p f g = refl
  same_list [] (y ∷ ys) o p f g = absurd (g y (inl refl))
  same_list (x ∷ xs) [] o p f g = absurd (f x (inl refl))
  same_list (x ∷ xs) (y ∷ ys) o p f g =
      let first : x ≡ y = elim (f x (inl refl)) [
        | inl s ↦ s
        | inr k ↦ elim (g y (inl refl)) [
          | inl s ↦ sym s
          | inr j ↦
              let there = all_in (λ z. IsBefore (key_of y) (key_of z)) ys p.0 x k in
              let back = all_in (λ z. IsBefore (key_of x) (key_of z)) xs o.0 y j in
              absurd (before_not_after (key_of y) (key_of x) there (at_most_from_before (key_of x) (key_of y) back))
        ]
      ] in
      let rest : xs ≡ ys = same_list xs ys o.1 p.1
      (λ z k. elim (f z (inr k)) [ inl s ↦ absurd (not_in_rest x xs o.0 z k (s ∙ sym first)) | inr j ↦ j ])
      (λ z k. elim (g z (inr k)) [ inl s ↦ absurd (not_in_rest y ys p.0 z k (s ∙ first)) | inr j ↦ j ]) in
      λ i. first i ∷ rest i

  -- x in front of what it comes before
  pub put_first : (x : A) (xs : List A) → AllByRecursion (λ y. IsBefore (key_of x) (key_of y)) xs → put_in_order key_of x xs ≡ x ∷ xs
  put_first x [] all = refl
  put_first x (y ∷ ys) all = put_first_at (is_before (key_of x) (key_of y)) refl
    where
      put_first_at : (b : Bool) → is_before (key_of x) (key_of y) ≡ b → cond b (x ∷ (y ∷ ys)) (y ∷ put_in_order key_of x ys) ≡ x ∷ (y ∷ ys)
      put_first_at true h = refl
      put_first_at false h =
          absurd (before_not_after (key_of x) (key_of y) all.0 (is_before-false (key_of x) (key_of y) h))

  -- what lies before a horizon, in a list in key order

  abbrev pub AllBefore : ℕ → List A → Type 0
  AllBefore h xs = AllByRecursion (λ x. (key_of x).time < h) xs

  abbrev pub AllFrom : ℕ → List A → Type 0
  AllFrom h xs = AllByRecursion (λ x. h ≤ (key_of x).time) xs

  pub before_all : (h : ℕ) (xs : List A) → AllBefore h xs → before key_of h xs ≡ xs
  before_all h [] all = refl
  before_all h (x ∷ xs) all = ap (λ b. cond b (x ∷ before key_of h xs) (before key_of h xs)) (lt-ltb (key_of x).time h all.0)
      ∙ ap (λ l. x ∷ l) (before_all h xs all.1)

  pub before_none : (h : ℕ) (xs : List A) → AllFrom h xs → before key_of h xs ≡ []
  before_none h [] all = refl
  before_none h (x ∷ xs) all = ap (λ b. cond b (x ∷ before key_of h xs) (before key_of h xs)) (le-ltb (key_of x).time h all.0) ∙ before_none h xs all.1

  pub from_on_all : (h : ℕ) (xs : List A) → AllFrom h xs → from_on key_of h xs ≡ xs
  from_on_all h [] all = refl
  from_on_all h (x ∷ xs) all = ap (λ b. cond (not b) (x ∷ from_on key_of h xs) (from_on key_of h xs)) (le-ltb (key_of x).time h all.0)
      ∙ ap (λ l. x ∷ l) (from_on_all h xs all.1)

  pub from_on_rest : (h : ℕ) (x : A) (xs : List A) → (key_of x).time < h → from_on key_of h (x ∷ xs) ≡ from_on key_of h xs
  from_on_rest h x xs lt = ap (λ b. cond (not b) (x ∷ from_on key_of h xs) (from_on key_of h xs)) (lt-ltb (key_of x).time h lt)

  -- past an item at the horizon or later, all are
  pub from_first : (h : ℕ) (x : A) (xs : List A) → AllByRecursion (λ y. IsBefore (key_of x) (key_of y)) xs → h ≤ (key_of x).time → AllFrom h xs
  from_first h x [] all le = tt
  from_first h x (y ∷ ys) all le = (omega (arith, all.0, le), from_first h x ys all.1 le)

  pub ordered_back : (xs ys : List A) → InKeyOrder key_of (xs ++ ys) → InKeyOrder key_of ys
  ordered_back [] ys o = o
  ordered_back (x ∷ xs) ys o = ordered_back xs ys o.1

  -- the items ys and then z, which is not before the horizon
  pub cut_at : (h : ℕ) (ys zs : List A) (z : A) → InKeyOrder key_of (ys ++ z ∷ zs) → AllBefore h ys → h ≤ (key_of z).time → before key_of h (ys ++ z ∷ zs) ≡ ys
  cut_at h ys zs z o all le =
      let back : InKeyOrder key_of (z ∷ zs) = ordered_back ys (z ∷ zs) o in
      let none : before key_of h (z ∷ zs) ≡ [] = before_none h (z ∷ zs) (le, from_first h z zs back.0 le) in
      filter-append (λ x. nat_lt (key_of x).time h) ys (z ∷ zs) ∙ ap (λ l. before key_of h ys ++ l) none ∙ append-nil (before key_of h ys) ∙ before_all h ys all

  pub before_push : (h : ℕ) (ys : List A) (z : A) → AllBefore h ys → (key_of z).time < h → AllBefore h (ys ++ z ∷ [])
  before_push h [] z all lt = (lt, tt)
  before_push h (y ∷ ys) z all lt = (all.0, before_push h ys z all.1 lt)

  -- nothing lies before a horizon that the first item does not lie before
  pub from_on_first : (h t : ℕ) (xs : List A) → InKeyOrder key_of xs → option_map (λ x. (key_of x).time) (slice_get xs 0) ≡ Some t → h ≤ t
      → from_on key_of h xs ≡ xs
  from_on_first h t [] o e le = refl
  from_on_first h t (x ∷ xs) o e le = let same : (key_of x).time ≡ t = cc
      in from_on_all h (x ∷ xs) (omega (arith, same, le), from_first h x xs o.0 (omega (arith, same, le)))

  pub from_on_none : (h : ℕ) (xs : List A) → option_map (λ x. (key_of x).time) (slice_get xs 0) ≡ None → from_on key_of h xs ≡ xs
  from_on_none h [] e = refl
  from_on_none h (x ∷ xs) e = absurd cc
