-- Events that are put into the queue or into the mail.
use Rattle.std.proofs.Common.{◌≡◌, ◌≢◌, ℕ, ◌<◌, ◌≤◌, Bool, true, false, List, [], ◌∷◌, ◌++◌, cond, not, nat_lt, refl, ap, sym, ◌∙◌, subst, inl, inr, ◌⊎◌, ⊎_elim, ◌↔◌, lt-ltb, le-ltb, append_assoc, append-nil, arith, length}
use Rattle.std.specs.Prelude.{nat_le, ◌&&◌}
use Rattle.std.specs.List.{AllByRecursion, Contains, list_all}
use Rattle.std.proofs.lemmas.Bool.{leb-true}
use Rattle.std.proofs.lemmas.List.Elements.{filter-append}
use Rattle.des_event.specs.declared.event.Event.{Event}
use Rattle.des_event.specs.KeyOrder.{InKeyOrder, IsNewKey, put_in_order, from_on}
use Rattle.des_event.proofs.KeyLists.{all_from, all_in, in_put, put_in, Contains-from_IsIn, IsIn-from_Contains}
use Rattle.des_event.proofs.Members.{AllPairs_append, AllPairs_front, AllPairs_at, AllPairs_rest, contains_append, contains_cons, contains_here, contains_left, contains_none, contains_right, contains_there}
use Rattle.des_queue.specs.EventKey.{event_key}
use Rattle.des_queue.proofs.Inserting.{AreApart, apart_across, ordered_apart}

module _ {Body : Type 0} where
  pub apart_end : (xs ys : List (Event Body)) → AreApart (xs ++ ys) → AreApart ys
  apart_end [] ys all = all
  apart_end (x ∷ xs) ys all = apart_end xs ys (AllPairs_rest (λ (a b : Event Body). a.key ≢ b.key) x (xs ++ ys) all)

  -- these were put in their places
  pub record HasSorted (horizon : ℕ) (old q yielded rest mail0 mail : List (Event Body)) : Type 0 where
    pub apart : AreApart (q ++ rest)
    pub same : (x : Event Body) → Contains q x ↔ (Contains old x ⊎ (Contains yielded x × (x.key.time < horizon)))
    pub mail_is : mail ≡ mail0 ++ from_on event_key horizon yielded

  -- if all are for later none is for this window
  pub all_later : (horizon : ℕ) (xs : List (Event Body)) → list_all (λ (x : Event Body). nat_le horizon x.key.time) xs ≡ true
      → AllByRecursion (λ (x : Event Body). horizon ≤ x.key.time) xs
  all_later horizon [] t = tt
  all_later horizon (x ∷ xs) t = go (nat_le horizon x.key.time) refl (all_later horizon xs) t
    where
      go : (b : Bool) → nat_le horizon x.key.time ≡ b → (list_all (λ (y : Event Body). nat_le horizon y.key.time) xs ≡ true
          → AllByRecursion (λ (y : Event Body). horizon ≤ y.key.time) xs)
          → (b && list_all (λ (y : Event Body). nat_le horizon y.key.time) xs) ≡ true
          → (horizon ≤ x.key.time) × AllByRecursion (λ (y : Event Body). horizon ≤ y.key.time) xs
      go true e rest r = (leb-true horizon x.key.time e, rest r)
      go false e rest r = absurd cc

  pub none_early : (horizon : ℕ) (xs : List (Event Body)) → AllByRecursion (λ (x : Event Body). horizon ≤ x.key.time) xs → (x : Event Body)
      → Contains xs x → x.key.time < horizon → ⊥
  none_early horizon xs all x c early =
      let late = all_in (λ (y : Event Body). horizon ≤ y.key.time) xs all x (IsIn-from_Contains xs x c) in omega (arith, late, early)

  pub sorted_none : (horizon : ℕ) (old rest mail : List (Event Body)) → AreApart (old ++ rest) → HasSorted horizon old old [] rest mail mail
  sorted_none horizon old rest mail apart = record {
    apart = apart;
    same = λ x. (λ c. inl c, λ c. ⊎_elim (λ k. k) (λ k. absurd (contains_none x k.0)) c);
    mail_is = sym (append-nil mail);
  }

  module _ (horizon : ℕ) (old q yielded rest mail0 mail : List (Event Body)) (event : Event Body) (next : List (Event Body))
      (s : HasSorted horizon old q yielded rest mail0 mail) (is : rest ≡ event ∷ next) where
    all : AreApart (q ++ event ∷ next)
    all = subst (λ l. AreApart (q ++ l)) is s.apart

    pub sorted_new : IsNewKey event_key event.key q
    sorted_new = all_from (λ (y : Event Body). y.key ≢ event.key) q (λ y c. apart_across q (event ∷ next) all y event (Contains-from_IsIn q y c)
        (contains_here event next))

    pushed : (x : Event Body) → Contains (yielded ++ event ∷ []) x → Contains yielded x ⊎ (event ≡ x)
    pushed x c = ⊎_elim (λ k. inl k) (λ k. ⊎_elim (λ e. inr e) (λ r. absurd (contains_none x r)) (contains_cons x event [] k))
        (contains_append yielded (event ∷ []) x c)

    pub sorted_in : event.key.time < horizon → InKeyOrder event_key (put_in_order event_key event q)
        → HasSorted horizon old (put_in_order event_key event q) (yielded ++ event ∷ []) next mail0 mail
    sorted_in early ordered = record {
      apart = AllPairs_append (λ (a b : Event Body). a.key ≢ b.key) (put_in_order event_key event q) next
          (ordered_apart (put_in_order event_key event q) ordered)
          (AllPairs_rest (λ (a b : Event Body). a.key ≢ b.key) event next (apart_end q (event ∷ next) all))
          (λ x y c k. ⊎_elim
          (λ (e : x ≡ event). subst (λ (z : Event Body). z.key ≢ y.key) (sym e)
          (AllPairs_at (λ (a b : Event Body). a.key ≢ b.key) event next (apart_end q (event ∷ next) all) y k))
          (λ r. apart_across q (event ∷ next) all x y (Contains-from_IsIn q x r) (contains_there y event next k))
          (in_put event_key event q x (IsIn-from_Contains (put_in_order event_key event q) x c)));
      same = λ x. (there x, back x);
      mail_is = s.mail_is ∙ ap (λ l. mail0 ++ l) (sym (filter-append (λ (x : Event Body). not (nat_lt x.key.time horizon)) yielded (event ∷ [])
          ∙ (ap (λ b. from_on event_key horizon yielded ++ cond (not b) (event ∷ []) []) (lt-ltb event.key.time horizon early)
          ∙ append-nil (from_on event_key horizon yielded))));
    }
      where
        there : (x : Event Body) → Contains (put_in_order event_key event q) x → Contains old x ⊎ (Contains (yielded ++ event ∷ []) x × (x.key.time < horizon))
        there x c = ⊎_elim
            (λ (e : x ≡ event). inr (
              subst (λ z. Contains (yielded ++ event ∷ []) z) (sym e)
                  (contains_right yielded (event ∷ []) event (contains_here event [])),
              subst (λ (z : Event Body). z.key.time < horizon) (sym e) early,
            ))
            (λ r. ⊎_elim (λ k. inl k) (λ k. inr (contains_left yielded (event ∷ []) x k.0, k.1)) ((s.same x).0 (Contains-from_IsIn q x r)))
            (in_put event_key event q x (IsIn-from_Contains (put_in_order event_key event q) x c))

        back : (x : Event Body) → Contains old x ⊎ (Contains (yielded ++ event ∷ []) x × (x.key.time < horizon)) → Contains (put_in_order event_key event q) x
        back x c = Contains-from_IsIn (put_in_order event_key event q) x (put_in event_key event q x (⊎_elim
            (λ k. inr (IsIn-from_Contains q x ((s.same x).1 (inl k))))
            (λ k. ⊎_elim (λ y. inr (IsIn-from_Contains q x ((s.same x).1 (inr (y, k.1))))) (λ e. inl (sym e)) (pushed x k.0)) c))

    pub sorted_out : horizon ≤ event.key.time → HasSorted horizon old q (yielded ++ event ∷ []) next mail0 (mail ++ event ∷ [])
    sorted_out late = record {
      apart = AllPairs_append (λ (a b : Event Body). a.key ≢ b.key) q next (AllPairs_front (λ (a b : Event Body). a.key ≢ b.key) q (event ∷ next) all)
          (AllPairs_rest (λ (a b : Event Body). a.key ≢ b.key) event next (apart_end q (event ∷ next) all))
          (λ x y c k. apart_across q (event ∷ next) all x y c (contains_there y event next k));
      same = λ x. (
        λ c. ⊎_elim (λ k. inl k) (λ k. inr (contains_left yielded (event ∷ []) x k.0, k.1)) ((s.same x).0 c),
        λ c. (s.same x).1 (⊎_elim (λ k. inl k) (λ k. ⊎_elim (λ y. inr (y, k.1))
            (λ (e : event ≡ x). let last : x.key.time < horizon = k.1 in absurd (omega (arith, late, last, ap (λ (z : Event Body). z.key.time) e)))
            (pushed x k.0)) c),
      );
      mail_is = ap (λ l. l ++ event ∷ []) s.mail_is ∙ append_assoc mail0 (from_on event_key horizon yielded) (event ∷ [])
          ∙ ap (λ l. mail0 ++ l) (sym (filter-append (λ (x : Event Body). not (nat_lt x.key.time horizon)) yielded (event ∷ [])
          ∙ ap (λ b. from_on event_key horizon yielded ++ cond (not b) (event ∷ []) []) (le-ltb event.key.time horizon late)));
    }

pub empty : {A : Type 0} (xs : List A) → length xs ≡ 0 → xs ≡ []
empty [] e = refl
empty (x ∷ xs) e = absurd (omega (arith, e))
