-- How many pending events of a kind there are after one event more: those that were pending beside it, and those that it makes.
use Rattle.std.proofs.Common.{◌≡◌, ◌≢◌, ◌⊎◌, ⊎_elim, inl, inr, ℕ, ◌+◌, ◌||◌, Bool, true, false, not, cond, List, [], ◌∷◌, ◌++◌, refl, sym, ◌∙◌, ap, subst, arith}
use Rattle.std.proofs.lemmas.Bool.{false_from_ne_true}
use Rattle.std.proofs.lemmas.List.Elements.{filter-append}
use Rattle.std.proofs.lemmas.List.Filters.{sum_by-filter_both}
use Rattle.std.proofs.lemmas.List.Kept.{AllPairs-filter}
use Rattle.std.proofs.lemmas.List.Sums.{sum_by-append, sum_by-cons}
use Rattle.std.specs.List.{AllPairs, Contains, count_by, filter}
use Rattle.des_event.specs.declared.event.Event.{Event}
use Rattle.des_event.specs.Keys.{is_same_key}
use Rattle.des_event.proofs.Members.{AllPairs_at, AllPairs_rest, contains_cons, contains_here, contains_none, contains_there}
use Rattle.des_event.proofs.Order.{is_same_key-true, same_key-self}
use Rattle.des_model.specs.Machine.{Machine}
use Rattle.des_model.specs.Histories.{IsPossible, all_events, effect_after, has_key, pending}
use Rattle.des_model.specs.WellFormed.{IsWellFormed}
use Rattle.des_model.proofs.Distinct.{distinct, made_fresh}
use Rattle.des_model.proofs.Pending.{has_key-true, waits_from}
use Rattle.des_model.proofs.Rest.{possible_known}

-- Filters

filter_all : {A : Type 0} (p : A → Bool) (xs : List A) → ((x : A) → Contains xs x → p x ≡ true) → filter p xs ≡ xs
filter_all p [] all = refl
filter_all p (x ∷ xs) all =
    ap (λ (b : Bool). cond b (x ∷ filter p xs) (filter p xs)) (all x (contains_here x xs))
    ∙ ap (λ ys. x ∷ ys) (filter_all p xs (λ y c. all y (contains_there y x xs c)))

filter_none : {A : Type 0} (p : A → Bool) (xs : List A) → ((x : A) → Contains xs x → p x ≡ false) → filter p xs ≡ []
filter_none p [] all = refl
filter_none p (x ∷ xs) all =
    ap (λ (b : Bool). cond b (x ∷ filter p xs) (filter p xs)) (all x (contains_here x xs))
    ∙ filter_none p xs (λ y c. all y (contains_there y x xs c))

-- a filter by two tests is one after another
filter_twice : {A : Type 0} (p q : A → Bool) (xs : List A) → filter (λ x. not (p x || q x)) xs ≡ filter (λ x. not (p x)) (filter (λ x. not (q x)) xs)
filter_twice p q [] = refl
filter_twice {A} p q (x ∷ xs) = by (p x) refl (q x) (filter_twice p q xs)
  where
    rest : List A
    rest = filter (λ y. not (q y)) xs

    by : (b : Bool) → p x ≡ b → (c : Bool) → filter (λ y. not (p y || q y)) xs ≡ filter (λ y. not (p y)) (filter (λ y. not (q y)) xs)
        → cond (not (b || c)) (x ∷ filter (λ y. not (p y || q y)) xs) (filter (λ y. not (p y || q y)) xs)
        ≡ filter (λ y. not (p y)) (cond (not c) (x ∷ filter (λ y. not (q y)) xs) (filter (λ y. not (q y)) xs))
    by true test true ih = ih
    by true test false ih =
        ih ∙ sym (ap (λ (b : Bool). cond (not b) (x ∷ filter (λ y. not (p y)) (filter (λ y. not (q y)) xs)) (filter (λ y. not (p y)) (filter (λ y. not
        (q y)) xs))) test)
    by false test true ih = ih
    by false test false ih =
        ap (λ ys. x ∷ ys) ih
        ∙ sym (ap (λ (b : Bool). cond (not b) (x ∷ filter (λ y. not (p y)) (filter (λ y. not (q y)) xs)) (filter (λ y. not (p y)) (filter (λ y. not
        (q y)) xs))) test)

module _ {Body : Type 0} where
  -- whether an event has the key of this one
  abbrev pub is_like : Event Body → Event Body → Bool
  is_like e x = is_same_key e.key x.key

  -- the events beside this one
  abbrev pub beside : Event Body → List (Event Body) → List (Event Body)
  beside e xs = filter (λ x. not (is_like e x)) xs

  unlike : (e x : Event Body) → e.key ≢ x.key → is_like e x ≡ false
  unlike e x apart = false_from_ne_true (is_like e x) (λ t. apart (is_same_key-true e.key x.key t))

  -- of events with different keys one is like this one
  one_like : (e : Event Body) (xs : List (Event Body)) → AllPairs (λ (a b : Event Body). a.key ≢ b.key) xs → Contains xs e → filter (is_like e) xs ≡ e ∷ []
  one_like e [] apart c = absurd (contains_none e c)
  one_like e (x ∷ xs) apart c = go (contains_cons e x xs c) (λ r. one_like e xs (AllPairs_rest (λ (a b : Event Body). a.key ≢ b.key) x xs apart) r)
    where
      go : (x ≡ e) ⊎ Contains xs e → (Contains xs e → filter (is_like e) xs ≡ e ∷ []) → filter (is_like e) (x ∷ xs) ≡ e ∷ []
      go (inl s) ih =
          ap (λ (b : Bool). cond b (x ∷ filter (is_like e) xs) (filter (is_like e) xs))
          (subst (λ (z : Event Body). is_like e z ≡ true) (sym s) (same_key-self e.key))
          ∙ ap (λ ys. x ∷ ys) (filter_none (is_like e) xs (λ y k. unlike e y (subst (λ (z : Event Body). z.key ≢ y.key) s
          (AllPairs_at (λ (a b : Event Body). a.key ≢ b.key) x xs apart y k))))
          ∙ ap (λ (z : Event Body). z ∷ []) s
      go (inr r) ih =
          ap (λ (b : Bool). cond b (x ∷ filter (is_like e) xs) (filter (is_like e) xs))
          (unlike e x (λ k. AllPairs_at (λ (a b : Event Body). a.key ≢ b.key) x xs apart e r (sym k)))
          ∙ ih r

  -- the count of all is that of this one and of those beside it
  pub counted_beside : (p : Event Body → Bool) (e : Event Body) (xs : List (Event Body)) → AllPairs (λ (a b : Event Body). a.key ≢ b.key) xs → Contains xs e
      → count_by p xs ≡ cond (p e) 1 0 + count_by p (beside e xs)
  counted_beside p e xs apart c =
      let split : count_by p (filter (is_like e) xs) + count_by p (beside e xs) ≡ count_by p xs =
      sum_by-filter_both (is_like e) (λ x. not (is_like e x)) (λ _. refl) (λ x. cond (p x) 1 0) xs in
      let one : count_by p (filter (is_like e) xs) ≡ count_by p (e ∷ []) = ap (count_by p) (one_like e xs apart c) in
      let here : count_by p (e ∷ []) ≡ cond (p e) 1 0 + count_by p [] = sum_by-cons (λ (x : Event Body). cond (p x) 1 0) e [] in
      omega (arith, split, one, here)

module _ {State Body Piece : Type 0} (m : Machine State Body Piece) {Sound : ℕ → State → Type 0} {Fit : Event Body → Type 0} (w : IsWellFormed m Sound Fit)
    (h : List (Event Body)) (e : Event Body) (possible : IsPossible m (e ∷ h)) where
  -- before the event
  pub counted_before : (p : Event Body → Bool) → count_by p (pending m h) ≡ cond (p e) 1 0 + count_by p (beside e (pending m h))
  counted_before p =
      counted_beside p e (pending m h)
      (AllPairs-filter (λ (a b : Event Body). a.key ≢ b.key) (λ (x : Event Body). not (has_key x.key h)) (all_events m h) (distinct m w h possible.0))
      possible.1

  -- what it makes is not taken yet
  made_waits : (x : Event Body) → Contains (effect_after m h e).events x → not (has_key x.key (e ∷ h)) ≡ true
  made_waits x c =
      ap not (false_from_ne_true (has_key x.key (e ∷ h))
      (λ t.
      let found = has_key-true x.key (e ∷ h) t in
      made_fresh m w h possible.0 e (waits_from m h e possible.1).known x found.0 c
      (⊎_elim (λ s. subst (λ z. Contains (all_events m h) z) s (waits_from m h e possible.1).known) (λ r. possible_known m h possible.0 found.0 r)
      (contains_cons found.0 e h found.1)) (sym found.2)))

  pub pending_after : pending m (e ∷ h) ≡ (effect_after m h e).events ++ beside e (pending m h)
  pending_after =
      filter-append (λ (x : Event Body). not (has_key x.key (e ∷ h))) (effect_after m h e).events (all_events m h)
      ∙ ap (λ ys. ys ++ filter (λ (x : Event Body). not (has_key x.key (e ∷ h))) (all_events m h))
      (filter_all (λ (x : Event Body). not (has_key x.key (e ∷ h))) (effect_after m h e).events made_waits)
      ∙ ap (λ ys. (effect_after m h e).events ++ ys) (filter_twice (is_like e) (λ (x : Event Body). has_key x.key h) (all_events m h))

  -- after it
  pub counted_after : (p : Event Body → Bool) → count_by p (pending m (e ∷ h)) ≡ count_by p (effect_after m h e).events + count_by p (beside e (pending m h))
  counted_after p =
      ap (count_by p) pending_after
      ∙ sum_by-append (λ (x : Event Body). cond (p x) 1 0) (effect_after m h e).events (beside e (pending m h))

-- before the first event all that a run starts with is pending
pub pending_first : {State Body Piece : Type 0} (m : Machine State Body Piece) → pending m [] ≡ m.start_events
pending_first m = filter_all _ m.start_events (λ x c. refl)
