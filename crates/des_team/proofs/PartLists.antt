-- What the lists of a part contain.
use Rattle.std.proofs.Common.{◌≡◌, ◌≢◌, ◌∙◌, ⊎_elim, ℕ, zero, suc, ◌<◌, Bool, true, false, cond, List, [], ◌∷◌, ◌++◌, length, get_or, set, take, drop, refl, ap, sym, subst, arith, append_assoc, append-nil}
use Rattle.std.proofs.lemmas.List.Elements.{filter-append}
use Rattle.std.specs.List.{AllPairs, Contains, filter}
use Rattle.des_event.specs.declared.event.Event.{Event}
use Rattle.des_event.proofs.Members.{AllPairs_at, AllPairs_cons, AllPairs_none, AllPairs_rest, contains_append, contains_here, contains_left, contains_none, contains_right, filter_contains}
use Rattle.des_team.specs.Mail.{all_of}

pub none_contained : {A : Type 0} (xs : List A) → ((x : A) → Contains xs x → ⊥) → xs ≡ []
none_contained [] none = refl
none_contained (x ∷ xs) none = absurd (none x (contains_here x xs))

module _ {Body : Type 0} where
  pub apart_filter : (keep : Event Body → Bool) (es : List (Event Body)) → AllPairs (λ (a b : Event Body). a.key ≢ b.key) es
      → AllPairs (λ (a b : Event Body). a.key ≢ b.key) (filter keep es)
  apart_filter keep [] all = AllPairs_none (λ (a b : Event Body). a.key ≢ b.key)
  apart_filter keep (e ∷ es) all = go (keep e) (apart_filter keep es (AllPairs_rest (λ (a b : Event Body). a.key ≢ b.key) e es all))
    where
      go : (b : Bool) → AllPairs (λ (a b : Event Body). a.key ≢ b.key) (filter keep es)
          → AllPairs (λ (a b : Event Body). a.key ≢ b.key) (cond b (e ∷ filter keep es) (filter keep es))
      go true rest = AllPairs_cons (λ (a b : Event Body). a.key ≢ b.key) e (filter keep es)
          (λ x c. AllPairs_at (λ (a b : Event Body). a.key ≢ b.key) e es all x (filter_contains keep es x c).0) rest
      go false rest = rest

  -- what a filter keeps of a list with one event more
  pub filter_one_more : (keep : Event Body → Bool) (es : List (Event Body)) (e : Event Body) → keep e ≡ true
      → filter keep (es ++ e ∷ []) ≡ filter keep es ++ e ∷ []
  filter_one_more keep es e is = filter-append keep es (e ∷ []) ∙ ap (λ b. filter keep es ++ cond b (e ∷ []) []) is

  pub filter_no_more : (keep : Event Body → Bool) (es : List (Event Body)) (e : Event Body) → keep e ≡ false
      → filter keep (es ++ e ∷ []) ≡ filter keep es
  filter_no_more keep es e is = filter-append keep es (e ∷ []) ∙ ap (λ b. filter keep es ++ cond b (e ∷ []) []) is ∙ append-nil (filter keep es)

  -- the list that an event of the lists is in
  pub record IsListed (lists : List (List (Event Body))) (x : Event Body) : Type 0 where
    pub place : ℕ
    pub inside : place < length lists
    pub list : List (Event Body)
    pub at : (v : List (Event Body)) → get_or lists place v ≡ list
    pub among : Contains list x

  pub listed_from : (lists : List (List (Event Body))) (x : Event Body) → Contains (all_of lists) x → IsListed lists x
  listed_from [] x c = absurd (contains_none x c)
  listed_from (l ∷ lists) x c = ⊎_elim
      (λ k. record { place = 0; inside = omega arith; list = l; at = λ v. refl; among = k })
      (λ k.
      let r = listed_from lists x k in
      record { place = suc r.place; inside = omega (arith, r.inside); list = r.list; at = λ v. r.at v; among = r.among })
      (contains_append l (all_of lists) x c)

  -- it is in the list at its place
  pub listed_at : (lists : List (List (Event Body))) (x : Event Body) (r : IsListed lists x) (v : List (Event Body))
      → Contains (get_or lists r.place v) x
  listed_at lists x r v = subst (λ (l : List (Event Body)). Contains l x) (sym (r.at v)) r.among

  pub listed_in : (lists : List (List (Event Body))) (i : ℕ) (v : List (Event Body)) (x : Event Body) → i < length lists
      → Contains (get_or lists i v) x → Contains (all_of lists) x
  listed_in [] i v x l c = absurd (omega (arith, l))
  listed_in (y ∷ lists) zero v x l c = contains_left y (all_of lists) x c
  listed_in (y ∷ lists) (suc i) v x l c = contains_right y (all_of lists) x (listed_in lists i v x (omega (arith, l)) c)

  -- a list, if there is one
  pub first_list : (lists : List (List (Event Body))) → 0 < length lists → List (Event Body)
  first_list [] l = absurd (omega (arith, l))
  first_list (y ∷ lists) l = y

  -- if the lists contain nothing each of them is empty
  pub none_listed : (lists : List (List (Event Body))) → all_of lists ≡ [] → (i : ℕ) (v : List (Event Body)) → i < length lists
      → get_or lists i v ≡ []
  none_listed lists none i v l = none_contained (get_or lists i v)
      (λ x c. contains_none x (subst (λ es. Contains es x) none (listed_in lists i v x l c)))

  -- a list amid the others
  pub list_amid : (lists : List (List (Event Body))) (i : ℕ) (v : List (Event Body)) → i < length lists
      → all_of lists ≡ all_of (take i lists) ++ ((get_or lists i v) ++ all_of (drop (suc i) lists))
  list_amid [] i v l = absurd (omega (arith, l))
  list_amid (y ∷ lists) zero v l = refl
  list_amid (y ∷ lists) (suc i) v l = ap (λ es. y ++ es) (list_amid lists i v (omega (arith, l)))
      ∙ sym (append_assoc y (all_of (take i lists)) ((get_or lists i v) ++ all_of (drop (suc i) lists)))

  pub list_put : (lists : List (List (Event Body))) (i : ℕ) (v : List (Event Body)) → i < length lists
      → all_of (set lists i v) ≡ all_of (take i lists) ++ (v ++ all_of (drop (suc i) lists))
  list_put [] i v l = absurd (omega (arith, l))
  list_put (y ∷ lists) zero v l = refl
  list_put (y ∷ lists) (suc i) v l = ap (λ es. y ++ es) (list_put lists i v (omega (arith, l)))
      ∙ sym (append_assoc y (all_of (take i lists)) (v ++ all_of (drop (suc i) lists)))

  pub list_put_front : (lists : List (List (Event Body))) (i : ℕ) (v : List (Event Body)) → i < length lists
      → all_of (take (suc i) (set lists i v)) ≡ all_of (take i lists) ++ v
  list_put_front [] i v l = absurd (omega (arith, l))
  list_put_front (y ∷ lists) zero v l = append-nil v
  list_put_front (y ∷ lists) (suc i) v l = ap (λ es. y ++ es) (list_put_front lists i v (omega (arith, l)))
      ∙ sym (append_assoc y (all_of (take i lists)) v)
