-- The lists of the parts, put together in key order.
use Rattle.std.proofs.Common.{
  Bool,
  true,
  false,
  cond,
  ◌≡◌,
  ℕ,
  zero,
  suc,
  ◌+◌,
  ◌<◌,
  ◌≤◌,
  List,
  [],
  ◌∷◌,
  length,
  refl,
  ap,
  sym,
  ◌∙◌,
  arith,
  inl,
  inr,
  ◌⊎◌,
  lt-ltb,
}
use Rattle.std.proofs.lemmas.Bool.{cases_order, cond-true, cond-false, le-ltb, false_from_ne_true}
use Rattle.std.proofs.lemmas.Bool.Decides.{nat_tests}
use Rattle.std.specs.Prelude.{nat_lt, ◌==◌}
use Rattle.std.specs.List.{Contains, filter, AllPairs}
use Rattle.des_event.specs.declared.key.Key.{Key}
use Rattle.des_event.specs.Keys.{IsBefore, is_before}
use Rattle.des_event.specs.declared.event.Event.{Event}
use Rattle.des_model.specs.Windows.{Division, part_of, restrict, insert_event, merge, merged, events_run}
use Rattle.des_event.proofs.Members.{contains_here, contains_there, filter_contains, AllPairs_at, AllPairs_rest}
use Rattle.des_event.proofs.Order.{is_before-true}
use Rattle.des_model.proofs.Parts.{restrict_in, restrict_out}

is_before_from : (a b : Key) → IsBefore a b → is_before a b ≡ true
is_before_from a b h = grind (arith, nat_tests, h.time, h.origin, h.number)

both : (a b : Key) → IsBefore a b → IsBefore b a → ⊥
both a b p q =
    let t : a.time ≡ b.time = omega arith in
    let o : a.origin ≡ b.origin = omega (arith, p.origin t, q.origin (sym t)) in
    omega (arith, p.number t o, q.number (sym t) (sym o))

not_before_from : (a b : Key) → IsBefore b a → is_before a b ≡ false
not_before_from a b h = false_from_ne_true (is_before a b) (λ t. both a b (is_before-true a b t) h)

module _ {Body : Type 0} where
  insert_newest : (e : Event Body) (ys : List (Event Body)) → ((y : Event Body) → Contains ys y → IsBefore y.key e.key) → insert_event e ys ≡ e ∷ ys
  insert_newest e [] a = refl
  insert_newest e (y ∷ ys) a = cond-false _ _ _ (not_before_from e.key y.key (a y (contains_here y ys)))

  merge_newest : (xs : List (Event Body)) (e : Event Body) (ys : List (Event Body)) → ((x : Event Body) → Contains xs x → IsBefore x.key e.key)
      → merge xs (e ∷ ys) ≡ e ∷ merge xs ys
  merge_newest [] e ys a = refl
  merge_newest (x ∷ xs) e ys a =
      ap (λ z. insert_event x z) (merge_newest xs e ys (λ y c. a y (contains_there y x xs c)))
      ∙ cond-true _ _ _ (is_before_from x.key e.key (a x (contains_here x xs)))

  length-insert_event : (e : Event Body) (ys : List (Event Body)) → length (insert_event e ys) ≡ suc (length ys)
  length-insert_event e [] = refl
  length-insert_event e (y ∷ ys) = go (is_before e.key y.key) (length-insert_event e ys)
    where
      go : (b : Bool) → length (insert_event e ys) ≡ suc (length ys) → length (cond b (y ∷ insert_event e ys) (e ∷ (y ∷ ys))) ≡ suc (suc (length ys))
      go true ih = ap suc ih
      go false ih = refl

  length-merge : (xs ys : List (Event Body)) → length (merge xs ys) ≡ length xs + length ys
  length-merge [] ys = omega arith
  length-merge (x ∷ xs) ys = omega (arith, length-insert_event x (merge xs ys), length-merge xs ys)

  pub length-merged : (ran : ℕ → List (Event Body)) (n : ℕ) → length (merged ran n) ≡ events_run ran n
  length-merged ran zero = refl
  length-merged ran (suc p) = omega (arith, length-merge (ran p) (merged ran p), length-merged ran p)

  module _ (d : Division) where
    -- the events of the first n parts
    pub among : ℕ → List (Event Body) → List (Event Body)
    among n g = filter (λ (e : Event Body). nat_lt (part_of d e.target) n) g

    among_in : (n : ℕ) (e : Event Body) (g : List (Event Body)) → part_of d e.target < n → among n (e ∷ g) ≡ e ∷ among n g
    unfolding among
    among_in n e g l = cond-true _ _ _ (lt-ltb (part_of d e.target) n l)

    among_out : (n : ℕ) (e : Event Body) (g : List (Event Body)) → n ≤ part_of d e.target → among n (e ∷ g) ≡ among n g
    unfolding among
    among_out n e g l = cond-false _ _ _ (le-ltb (part_of d e.target) n l)

    pub among_none : (g : List (Event Body)) → among 0 g ≡ []
    unfolding among
    among_none [] = refl
    among_none (e ∷ g) = among_out 0 e g (omega arith) ∙ among_none g

    pub among_all : (g : List (Event Body)) → ((x : Event Body) → Contains g x → part_of d x.target < d.parts) → among d.parts g ≡ g
    unfolding among
    among_all [] a = refl
    among_all (e ∷ g) a = among_in d.parts e g (a e (contains_here e g)) ∙ ap (λ z. e ∷ z) (among_all g (λ x c. a x (contains_there x e g c)))

    pub length_among : (n : ℕ) (g : List (Event Body)) → length (among (suc n) g) ≡ length (restrict d n g) + length (among n g)
    unfolding among
    length_among n [] = refl
    length_among n (e ∷ g) = go (cases_order (part_of d e.target) n) (length_among n g)
      where
        go : (part_of d e.target ≡ n) ⊎ ((part_of d e.target < n) ⊎ (n < part_of d e.target))
            → length (among (suc n) g) ≡ length (restrict d n g) + length (among n g)
            → length (among (suc n) (e ∷ g)) ≡ length (restrict d n (e ∷ g)) + length (among n (e ∷ g))
        go (inl here) ih = omega (
          arith,
          ih,
          ap length (among_in (suc n) e g (omega arith)),
          ap length (restrict_in d n e g here),
          ap length
              (among_out n e g (omega arith)),
        )
        go (inr (inl less)) ih = omega (
          arith,
          ih,
          ap length (among_in (suc n) e g (omega arith)),
          ap length
              (restrict_out d n e g (λ s. omega arith)),
          ap length (among_in n e g less),
        )
        go (inr (inr more)) ih = omega (
          arith,
          ih,
          ap length (among_out (suc n) e g (omega arith)),
          ap length
              (restrict_out d n e g (λ s. omega arith)),
          ap length (among_out n e g (omega arith)),
        )

    -- the events of part n joined to those of the parts before it
    merge-restrict : (n : ℕ) (g : List (Event Body)) → AllPairs (λ (a b : Event Body). IsBefore b.key a.key) g
        → merge (restrict d n g) (among n g) ≡ among (suc n) g
    unfolding among
    merge-restrict n [] up = refl
    merge-restrict n (e ∷ g) up = go (cases_order (part_of d e.target) n)
        (merge-restrict n g (AllPairs_rest (λ (a b : Event Body). IsBefore b.key a.key) e g up))
      where
        older : (x : Event Body) → Contains g x → IsBefore x.key e.key
        older x c = AllPairs_at (λ (a b : Event Body). IsBefore b.key a.key) e g up x c

        go : (part_of d e.target ≡ n) ⊎ ((part_of d e.target < n) ⊎ (n < part_of d e.target)) → merge (restrict d n g) (among n g) ≡ among (suc n) g
            → merge (restrict d n (e ∷ g)) (among n (e ∷ g)) ≡ among (suc n) (e ∷ g)
        go (inl here) ih =
            ap (λ z. merge z (among n (e ∷ g))) (restrict_in d n e g here)
            ∙ (ap (λ z. insert_event e (merge (restrict d n g) z)) (among_out n e g (omega arith))
            ∙ (ap (λ z. insert_event e z) ih
            ∙ (insert_newest e (among (suc n) g) (λ y c. older y (filter_contains (λ (x : Event Body). nat_lt (part_of d x.target) (suc n)) g y c).0)
            ∙ sym (among_in (suc n) e g (omega arith)))))
        go (inr (inl less)) ih =
            ap (λ z. merge z (among n (e ∷ g))) (restrict_out d n e g (λ s. omega arith))
            ∙ (ap (λ z. merge (restrict d n g) z) (among_in n e g less)
            ∙ (merge_newest (restrict d n g) e (among n g) (λ y c. older y (filter_contains (λ (x : Event Body). part_of d x.target == n) g y c).0)
            ∙ (ap (λ z. e ∷ z) ih ∙ sym (among_in (suc n) e g (omega arith)))))
        go (inr (inr more)) ih =
            ap (λ z. merge z (among n (e ∷ g))) (restrict_out d n e g (λ s. omega arith))
            ∙ (ap (λ z. merge (restrict d n g) z) (among_out n e g (omega arith))
            ∙ (ih ∙ sym (among_out (suc n) e g (omega arith))))

    merged_first : (ran : ℕ → List (Event Body)) (g : List (Event Body)) → AllPairs (λ (a b : Event Body). IsBefore b.key a.key) g
        → (n : ℕ) → ((p : ℕ) → p < n → ran p ≡ restrict d p g) → merged ran n ≡ among n g
    merged_first ran g up zero each = sym (among_none g)
    merged_first ran g up (suc n) each =
        ap (λ z. merge (ran n) z) (merged_first ran g up n (λ p l. each p (omega arith)))
        ∙ (ap (λ z. merge z (among n g)) (each n (omega arith)) ∙ merge-restrict n g up)

    -- if each part ran its events of g, together they ran g
    pub merged_is : (ran : ℕ → List (Event Body)) (g : List (Event Body)) → AllPairs (λ (a b : Event Body). IsBefore b.key a.key) g
        → ((x : Event Body) → Contains g x → part_of d x.target < d.parts)
        → ((p : ℕ) → p < d.parts → ran p ≡ restrict d p g) → merged ran d.parts ≡ g
    merged_is ran g up all each = merged_first ran g up d.parts each ∙ among_all g all
