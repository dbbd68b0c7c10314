-- The event of least key.
use Rattle.std.proofs.Common.{◌≡◌, Bool, true, false, cond, Option, None, Some, List, [], ◌∷◌, refl, ap, sym, subst, ⊎_elim}
use Rattle.std.specs.List.{Contains}
use Rattle.des_event.specs.Keys.{IsAtMost, is_before}
use Rattle.des_event.specs.declared.event.Event.{Event}
use Rattle.des_model.specs.Histories.{least, earlier}
use Rattle.des_event.proofs.Members.{contains_none, contains_here, contains_there, contains_cons}
use Rattle.des_event.proofs.Order.{at_most_self, at_most_trans, at_most_both, at_most_from_before, is_before-true, is_before-false}

module _ {Body : Type 0} where
  -- it is one of them, and none is less
  pub record IsLeast (xs : List (Event Body)) (e : Event Body) : Type 0 where
    pub among : Contains xs e
    pub first : (x : Event Body) → Contains xs x → IsAtMost e.key x.key

  least_cons : (e : Event Body) (es : List (Event Body)) (o : Option (Event Body)) → least es ≡ o → ((x : Event Body) → o ≡ Some x → IsLeast es x)
      → (o ≡ None → (x : Event Body) → Contains es x → ⊥)
      → IsLeast (e ∷ es) (earlier e o)
  least_cons e es None s k none = record {
    among = contains_here e es;
    first = λ x c. ⊎_elim (λ t. subst (λ (z : Event Body). IsAtMost e.key z.key) t (at_most_self e.key)) (λ r. absurd (none refl x r)) (contains_cons x e es c);
  }
  least_cons e es (Some y) s k none = go (is_before y.key e.key) refl (k y refl)
    where
      go : (b : Bool) → is_before y.key e.key ≡ b → IsLeast es y → IsLeast (e ∷ es) (cond b y e)
      go true t l = record {
        among = contains_there y e es l.among;
        first = λ x c. ⊎_elim (λ u. subst (λ (z : Event Body). IsAtMost y.key z.key) u
            (at_most_from_before y.key e.key (is_before-true y.key e.key t))) (λ r. l.first x r) (contains_cons x e es c);
      }
      go false t l = record {
        among = contains_here e es;
        first = λ x c. ⊎_elim (λ u. subst (λ (z : Event Body). IsAtMost e.key z.key) u (at_most_self e.key))
            (λ r. at_most_trans e.key y.key x.key (is_before-false y.key e.key t) (l.first x r)) (contains_cons x e es c);
      }

  pub least-None : (xs : List (Event Body)) → least xs ≡ None → (x : Event Body) → Contains xs x → ⊥
  least-None [] e x c = contains_none x c
  least-None (y ∷ ys) e x c = cc

  pub least-Some : (xs : List (Event Body)) (e : Event Body) → least xs ≡ Some e → IsLeast xs e
  least-Some [] e s = absurd cc
  least-Some (y ∷ ys) e s =
      let found : IsLeast (y ∷ ys) (earlier y (least ys)) = least_cons y ys (least ys) refl (λ x t. least-Some ys x t) (λ t. least-None ys t) in
      let same : earlier y (least ys) ≡ e = cc s in
      subst (λ (z : Event Body). IsLeast (y ∷ ys) z) same found

  -- if one key is one event, the least is found
  pub least_is : (xs : List (Event Body)) (e : Event Body) → ((x y : Event Body) → Contains xs x → Contains xs y → x.key ≡ y.key → x ≡ y)
      → IsLeast xs e → least xs ≡ Some e
  least_is xs e one l = go (least xs) refl
    where
      go : (o : Option (Event Body)) → least xs ≡ o → o ≡ Some e
      go None s = absurd (least-None xs s e l.among)
      go (Some y) s =
          let f : IsLeast xs y = least-Some xs y s in
          ap Some (one y e f.among l.among (at_most_both y.key e.key (f.first e l.among) (l.first y f.among)))

  pub least_none : (xs : List (Event Body)) → ((x : Event Body) → Contains xs x → ⊥) → least xs ≡ None
  least_none [] h = refl
  least_none (y ∷ ys) h = absurd (h y (contains_here y ys))

  -- two lists of the same events have the same least one
  pub least_same : (xs ys : List (Event Body)) → ((x y : Event Body) → Contains ys x → Contains ys y → x.key ≡ y.key → x ≡ y)
      → ((x : Event Body) → Contains xs x → Contains ys x) → ((x : Event Body) → Contains ys x → Contains xs x) → least xs ≡ least ys
  least_same xs ys one there back = go (least xs) refl
    where
      go : (o : Option (Event Body)) → least xs ≡ o → o ≡ least ys
      go None s = sym (least_none ys (λ x c. least-None xs s x (back x c)))
      go (Some e) s =
          let l : IsLeast xs e = least-Some xs e s in
          sym (least_is ys e one (record { among = there e l.among; first = λ x c. l.first x (back x c) }))
