-- What is pending after a history, as facts.
use Rattle.std.proofs.Common.{◌≡◌, ◌≢◌, true, false, not, List, [], ◌∷◌, ap, sym, ◌∙◌, subst, inl, inr, ◌⊎◌, ⊎_elim}
use Rattle.std.proofs.lemmas.Bool.{false_from_ne_true, or_cases, or_left, or_right, not-true, not_from_false}
use Rattle.std.specs.List.{Contains}
use Rattle.des_event.specs.declared.key.Key.{Key}
use Rattle.des_event.specs.Keys.{is_same_key}
use Rattle.des_event.specs.declared.event.Event.{Event}
use Rattle.des_model.specs.Machine.{Machine}
use Rattle.des_model.specs.Histories.{has_key, all_events, pending, effect_after}
use Rattle.des_event.proofs.Members.{
  contains_none,
  contains_here,
  contains_there,
  contains_cons,
  contains_filter,
  filter_contains,
  contains_append,
  contains_right,
}
use Rattle.des_event.proofs.Order.{is_same_key-true, same_key-self}

module _ {Body : Type 0} where
  pub has_key-true : (k : Key) (h : List (Event Body)) → has_key k h ≡ true → (e : Event Body) × Contains h e × (e.key ≡ k)
  has_key-true k [] t = absurd cc
  has_key-true k (y ∷ h) t = go (or_cases (is_same_key y.key k) (has_key k h) t) (has_key-true k h)
    where
      go : (is_same_key y.key k ≡ true) ⊎ (has_key k h ≡ true) → (has_key k h ≡ true → (e : Event Body) × Contains h e × (e.key ≡ k))
          → (e : Event Body) × Contains (y ∷ h) e × (e.key ≡ k)
      go (inl s) f = (y, contains_here y h, is_same_key-true y.key k s)
      go (inr s) f = let r = f s in (r.0, contains_there r.0 y h r.1, r.2)

  pub has_key_from : (e : Event Body) (h : List (Event Body)) → Contains h e → has_key e.key h ≡ true
  has_key_from e [] c = absurd (contains_none e c)
  has_key_from e (y ∷ h) c =
      ⊎_elim (λ s. or_left (is_same_key y.key e.key) (has_key e.key h)
      (subst (λ (z : Event Body). is_same_key z.key e.key ≡ true) (sym s) (same_key-self e.key)))
      (λ r. or_right (is_same_key y.key e.key) (has_key e.key h) (has_key_from e h r)) (contains_cons e y h c)

-- x was made, and no event of h has its key
pub record Waits {State Body Piece : Type 0} (m : Machine State Body Piece) (h : List (Event Body)) (x : Event Body) : Type 0 where
  pub known : Contains (all_events m h) x
  pub free : (y : Event Body) → Contains h y → y.key ≡ x.key → ⊥

module _ {State Body Piece : Type 0} (m : Machine State Body Piece) where
  pub waits_from : (h : List (Event Body)) (x : Event Body) → Contains (pending m h) x → Waits m h x
  waits_from h x c =
      let f = filter_contains (λ (e : Event Body). not (has_key e.key h)) (all_events m h) x c in
      record {
        known = f.0;
        free = λ y k s. cc (not-true (has_key x.key h) f.1, subst (λ z. has_key z h ≡ true) s (has_key_from y h k));
      }

  pub pending_from : (h : List (Event Body)) (x : Event Body) → Waits m h x → Contains (pending m h) x
  pending_from h x w =
      let no : has_key x.key h ≡ false = false_from_ne_true (has_key x.key h) (λ t. let r = has_key-true x.key h t in w.free r.0 r.1 r.2) in
      contains_filter (λ (e : Event Body). not (has_key e.key h)) (all_events m h) x w.known (not_from_false (has_key x.key h) no)

  -- what waits after one event more waited before, or was made by it
  pub waits_before : (e : Event Body) (h : List (Event Body)) (x : Event Body) → Waits m (e ∷ h) x → Contains (effect_after m h e).events x ⊎ Waits m h x
  waits_before e h x w =
      ⊎_elim (λ c. inl c) (λ c. inr (record { known = c; free = λ y k s. w.free y (contains_there y e h k) s }))
      (contains_append (effect_after m h e).events (all_events m h) x w.known)

  -- and what waited before is the event, or waits still
  pub waits_after : (e : Event Body) (h : List (Event Body)) (x : Event Body) → Waits m h x → e.key ≢ x.key → Waits m (e ∷ h) x
  waits_after e h x w ne = record {
    known = contains_right (effect_after m h e).events (all_events m h) x w.known;
    free = λ y k s. ⊎_elim (λ t. ne (ap (λ (z : Event Body). z.key) t ∙ s)) (λ r. w.free y r s) (contains_cons y e h k);
  }
