-- Events that are added one after another.
use Rattle.std.proofs.Common.{◌≡◌, ◌≢◌, ⊎_elim, inl, inr, ◌↔◌, List, [], ◌∷◌, ◌++◌, length, refl, sym, subst, arith}
use Rattle.std.specs.List.{AllPairs, Contains}
use Rattle.des_event.specs.declared.event.Event.{Event}
use Rattle.des_event.specs.Keys.{IsBefore}
use Rattle.des_event.specs.KeyOrder.{InKeyOrder, IsNewKey, put_in_order}
use Rattle.des_event.proofs.KeyLists.{all_from, all_in, in_put, ordered_put, put_in, Contains-from_IsIn, IsIn-from_Contains}
use Rattle.des_event.proofs.Members.{
  AllPairs_append,
  AllPairs_at,
  AllPairs_cons,
  AllPairs_none,
  AllPairs_rest,
  contains_append,
  contains_cons,
  contains_here,
  contains_left,
  contains_none,
  contains_right,
}
use Rattle.des_event.proofs.Order.{before_not_same}
use Rattle.des_queue.specs.EventKey.{event_key}

pub empty : {A : Type 0} (xs : List A) → length xs ≡ 0 → xs ≡ []
empty [] e = refl
empty (x ∷ xs) e = absurd (omega (arith, e))

module _ {B : Type 0} where
  -- no two events have one key
  abbrev pub AreApart : List (Event B) → Type 0
  AreApart es = AllPairs (λ (a b : Event B). a.key ≢ b.key) es

  pub apart_across : (xs ys : List (Event B)) → AreApart (xs ++ ys) → (x y : Event B) → Contains xs x → Contains ys y → x.key ≢ y.key
  apart_across [] ys all x y c d = absurd (contains_none x c)
  apart_across (z ∷ xs) ys all x y c d = ⊎_elim
      (λ e. subst (λ (w : Event B). w.key ≢ y.key) e (AllPairs_at (λ (a b : Event B). a.key ≢ b.key) z (xs ++ ys) all y (contains_right xs ys y d)))
      (λ r. apart_across xs ys (AllPairs_rest (λ (a b : Event B). a.key ≢ b.key) z (xs ++ ys) all) x y r d)
      (contains_cons x z xs c)

  pub apart_front : (xs ys : List (Event B)) → AreApart (xs ++ ys) → AreApart xs
  apart_front [] ys all = AllPairs_none (λ (a b : Event B). a.key ≢ b.key)
  apart_front (x ∷ xs) ys all = AllPairs_cons (λ (a b : Event B). a.key ≢ b.key) x xs
      (λ y c. AllPairs_at (λ (a b : Event B). a.key ≢ b.key) x (xs ++ ys) all y (contains_left xs ys y c))
      (apart_front xs ys (AllPairs_rest (λ (a b : Event B). a.key ≢ b.key) x (xs ++ ys) all))

  pub apart_back : (xs ys : List (Event B)) → AreApart (xs ++ ys) → AreApart ys
  apart_back [] ys all = all
  apart_back (x ∷ xs) ys all = apart_back xs ys (AllPairs_rest (λ (a b : Event B). a.key ≢ b.key) x (xs ++ ys) all)

  -- no two events in key order have one key
  pub ordered_apart : (es : List (Event B)) → InKeyOrder event_key es → AreApart es
  ordered_apart [] o = AllPairs_none (λ (a b : Event B). a.key ≢ b.key)
  ordered_apart (e ∷ es) o = AllPairs_cons (λ (a b : Event B). a.key ≢ b.key) e es
      (λ x c. before_not_same e.key x.key (all_in (λ (y : Event B). IsBefore e.key y.key) es o.0 x (IsIn-from_Contains es x c)))
      (ordered_apart es o.1)

  module _ (x : Event B) (q es : List (Event B)) (all : AreApart (q ++ (es ++ x ∷ []))) where
    last_there : Contains (es ++ x ∷ []) x
    last_there = contains_right es (x ∷ []) x (contains_here x [])

    pub last_new : IsNewKey event_key x.key q
    last_new = all_from (λ (y : Event B). y.key ≢ x.key) q (λ y c. apart_across q (es ++ x ∷ []) all y x (Contains-from_IsIn q y c) last_there)

    pub last_put : (z : Event B) → Contains (put_in_order event_key x q ++ es) z ↔ Contains (q ++ (es ++ x ∷ [])) z
    last_put z = (there, back)
      where
        there : Contains (put_in_order event_key x q ++ es) z → Contains (q ++ (es ++ x ∷ [])) z
        there c = ⊎_elim
            (λ h. ⊎_elim
            (λ e. subst (λ w. Contains (q ++ (es ++ x ∷ [])) w) (sym e) (contains_right q (es ++ x ∷ []) x last_there))
            (λ r. contains_left q (es ++ x ∷ []) z (Contains-from_IsIn q z r))
            (in_put event_key x q z (IsIn-from_Contains (put_in_order event_key x q) z h)))
            (λ h. contains_right q (es ++ x ∷ []) z (contains_left es (x ∷ []) z h))
            (contains_append (put_in_order event_key x q) es z c)

        back : Contains (q ++ (es ++ x ∷ [])) z → Contains (put_in_order event_key x q ++ es) z
        back c = ⊎_elim
            (λ h. contains_left (put_in_order event_key x q) es z
            (Contains-from_IsIn (put_in_order event_key x q) z (put_in event_key x q z (inr (IsIn-from_Contains q z h)))))
            (λ h. ⊎_elim
            (λ r. contains_right (put_in_order event_key x q) es z r)
            (λ r. ⊎_elim
            (λ e. contains_left (put_in_order event_key x q) es z (Contains-from_IsIn (put_in_order event_key x q) z (put_in event_key x q z (inl (sym e)))))
            (λ n. absurd (contains_none z n))
            (contains_cons z x [] r))
            (contains_append es (x ∷ []) z h))
            (contains_append q (es ++ x ∷ []) z c)

    pub last_apart : InKeyOrder event_key q → AreApart (put_in_order event_key x q ++ es)
    last_apart o = AllPairs_append (λ (a b : Event B). a.key ≢ b.key) (put_in_order event_key x q) es
        (ordered_apart (put_in_order event_key x q) (ordered_put event_key x q o last_new))
        (apart_front es (x ∷ []) (apart_back q (es ++ x ∷ []) all))
        (λ a b c d. ⊎_elim
        (λ e. subst (λ (w : Event B). w.key ≢ b.key) (sym e) (λ s. apart_across es (x ∷ []) (apart_back q (es ++ x ∷ []) all) b x d
        (contains_here x []) (sym s)))
        (λ r. apart_across q (es ++ x ∷ []) all a b (Contains-from_IsIn q a r) (contains_left es (x ∷ []) b d))
        (in_put event_key x q a (IsIn-from_Contains (put_in_order event_key x q) a c)))
