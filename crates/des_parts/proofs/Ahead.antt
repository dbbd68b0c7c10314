-- Which of two lists has the event that comes first.
use Rattle.std.proofs.Common.{◌≡◌, ℕ, zero, suc, ◌<◌, true, false, List, [], ◌∷◌, ◌++◌, Option, None, Some, length, drop, slice_get, get_or, refl, ap, sym, subst, ⊎_elim, arith}
use Rattle.std.proofs.lemmas.Option.{none-some}
use Rattle.std.specs.List.{Contains}
use Rattle.des_event.specs.declared.event.Event.{Event}
use Rattle.des_event.specs.Keys.{IsAtMost, is_before}
use Rattle.des_event.specs.KeyOrder.{InKeyOrder}
use Rattle.des_event.proofs.Members.{contains_append, contains_none}
use Rattle.des_event.proofs.Order.{at_most_from_before, at_most_trans, is_before-false, is_before-true}
use Rattle.des_queue.specs.EventKey.{event_key}
use Rattle.des_window.proofs.EventLists.{head_first}
use Rattle.des_parts.specs.PartRuns.{comes_first, is_ahead}

module _ {Body : Type 0} where
  pub ordered_drop : (n : ℕ) (es : List (Event Body)) → InKeyOrder event_key es → InKeyOrder event_key (drop n es)
  ordered_drop zero es o = o
  ordered_drop (suc n) [] o = tt
  ordered_drop (suc n) (e ∷ es) o = ordered_drop n es o.1

  -- what is at a place is the head of the rest
  pub place_is : (es : List (Event Body)) (i : ℕ) (e : Event Body) → i < length es → e ≡ get_or es i e → drop i es ≡ e ∷ drop (suc i) es
  place_is [] i e l at = absurd (omega (arith, l))
  place_is (x ∷ es) zero e l at = ap (λ z. z ∷ es) (sym at)
  place_is (x ∷ es) (suc i) e l at = place_is es i e (omega (arith, l)) at

  pub get_there : (es : List (Event Body)) (i : ℕ) (e : Event Body) → i < length es → e ≡ get_or es i e → slice_get es i ≡ Some e
  get_there [] i e l at = absurd (omega (arith, l))
  get_there (x ∷ es) zero e l at = ap Some (sym at)
  get_there (x ∷ es) (suc i) e l at = get_there es i e (omega (arith, l)) at

  pub get_beyond : (es : List (Event Body)) (i : ℕ) → slice_get es i ≡ None → drop i es ≡ []
  get_beyond [] zero n = refl
  get_beyond [] (suc i) n = refl
  get_beyond (x ∷ es) zero n = absurd (none-some x (sym n))
  get_beyond (x ∷ es) (suc i) n = get_beyond es i n

  pub get_some : (es : List (Event Body)) (i : ℕ) (e : Event Body) → slice_get es i ≡ Some e → drop i es ≡ e ∷ drop (suc i) es
  get_some [] i e s = absurd (none-some e s)
  get_some (x ∷ es) zero e s = ap (λ z. z ∷ es) (value_is s)
    where
      value_is : Some x ≡ Some e → x ≡ e
      value_is s = ap (value x) s
        where
          value : Event Body → Option (Event Body) → Event Body
          value d None = d
          value d (Some z) = z
  get_some (x ∷ es) (suc i) e s = get_some es i e s

  inside_from : (o : Option (Event Body)) (f : Option (Event Body)) → is_ahead o f ≡ true → o ≡ None → ⊥
  inside_from None f t n = absurd (absurd_bool t)
    where
      absurd_bool : false ≡ true → ⊥
      absurd_bool e = cc
  inside_from (Some e) f t n = none-some e (sym n)

  -- the due event comes before all
  pub due_inside : (es made : List (Event Body)) (i : ℕ) → comes_first es i made ≡ true → i < length es
  due_inside [] made i t = absurd (inside_from None (slice_get made 0) t refl)
  due_inside (e ∷ es) made zero t = omega arith
  due_inside (e ∷ es) made (suc i) t = omega (arith, due_inside es made i t)

  module _ (due made : List (Event Body)) (i : ℕ) (due_ordered : InKeyOrder event_key due) (made_ordered : InKeyOrder event_key made) where
    pub due_first : comes_first due i made ≡ true → (e : Event Body) → e ≡ get_or due i e → (x : Event Body) → Contains (e ∷ drop (suc i) due ++ made) x
        → IsAtMost e.key x.key
    due_first t e at x c = ⊎_elim
        (λ k. head_first e (drop (suc i) due) ordered x k)
        (λ k. go made made_ordered (subst (λ o. is_ahead o (slice_get made 0) ≡ true) (get_there due i e inside at) t) k)
        (contains_append (e ∷ drop (suc i) due) made x c)
      where
        inside : i < length due
        inside = due_inside due made i t

        ordered : InKeyOrder event_key (e ∷ drop (suc i) due)
        ordered = subst (λ l. InKeyOrder event_key l) (place_is due i e inside at) (ordered_drop i due due_ordered)

        go : (ms : List (Event Body)) → InKeyOrder event_key ms → is_ahead (Some e) (slice_get ms 0) ≡ true → Contains ms x → IsAtMost e.key x.key
        go [] o b k = absurd (contains_none x k)
        go (f ∷ fs) o b k = at_most_trans e.key f.key x.key (at_most_from_before e.key f.key (is_before-true e.key f.key b)) (head_first f fs o x k)

    pub made_first : comes_first due i made ≡ false → (e : Event Body) (left : List (Event Body)) → made ≡ e ∷ left → (x : Event Body)
        → Contains (drop i due ++ e ∷ left) x → IsAtMost e.key x.key
    made_first t e left is x c = ⊎_elim
        (λ k. go (slice_get due i) refl k)
        (λ k. head_first e left (subst (λ l. InKeyOrder event_key l) is made_ordered) x k)
        (contains_append (drop i due) (e ∷ left) x c)
      where
        go : (o : Option (Event Body)) → slice_get due i ≡ o → Contains (drop i due) x → IsAtMost e.key x.key
        go None s k = absurd (contains_none x (subst (λ l. Contains l x) (get_beyond due i s) k))
        go (Some d) s k =
            let is_drop : drop i due ≡ d ∷ drop (suc i) due = get_some due i d s in
            let behind : is_before d.key e.key ≡ false = subst (λ l. is_ahead (Some d) (slice_get l 0) ≡ false) is
            (subst (λ o. is_ahead o (slice_get made 0) ≡ false) s t) in
            at_most_trans e.key d.key x.key (is_before-false d.key e.key behind)
            (head_first d (drop (suc i) due) (subst (λ l. InKeyOrder event_key l) is_drop (ordered_drop i due due_ordered)) x
            (subst (λ l. Contains l x) is_drop k))

    -- nothing is left
    pub none_left : comes_first due i made ≡ false → made ≡ [] → drop i due ≡ []
    none_left t is = go (slice_get due i) refl
      where
        go : (o : Option (Event Body)) → slice_get due i ≡ o → drop i due ≡ []
        go None s = get_beyond due i s
        go (Some d) s = absurd (differ (subst (λ l. is_ahead (Some d) (slice_get l 0) ≡ false) is (subst (λ o. is_ahead o (slice_get made 0) ≡ false) s t)))
          where
            differ : true ≡ false → ⊥
            differ e = cc

  pub due_at : (es made : List (Event Body)) (i : ℕ) → comes_first es i made ≡ true → (e : Event Body) × (e ≡ get_or es i e)
  due_at [] made i t = absurd (inside_from None (slice_get made 0) t refl)
  due_at (e ∷ es) made zero t = (e, refl)
  due_at (e ∷ es) made (suc i) t = due_at es made i t

  pub no_first : (es : List (Event Body)) → None ≡ slice_get es 0 → es ≡ []
  no_first [] n = refl
  no_first (e ∷ es) n = absurd (none-some e n)
