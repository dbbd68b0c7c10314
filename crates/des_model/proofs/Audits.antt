-- Which audits an event makes due, and what they see.
use Rattle.std.proofs.Common.{◌≡◌, ℕ, Bool, true, false, cond, None, List, [], ◌∷◌, ◌++◌, map, refl, ap, sym, ◌∙◌}
use Rattle.std.proofs.lemmas.Bool.{cond-true, cond-false}
use Rattle.std.specs.Prelude.{nat_lt, nat_le, ◌&&◌, is_none, if◌then◌else◌}
use Rattle.std.specs.List.{filter, Contains}
use Rattle.des_event.specs.declared.event.Event.{Event}
use Rattle.des_model.specs.Machine.{Machine}
use Rattle.des_model.specs.Histories.{state, next, effect_after, audit_at, open_audits, output, trace}
use Rattle.des_event.proofs.Members.{contains_here, contains_there, filter_contains}
use Rattle.des_model.proofs.Rest.{audits_see_all}

pub filter_both : {A : Type 0} (p q : A → Bool) (xs : List A) → filter (λ x. p x && q x) xs ≡ filter p (filter q xs)
filter_both p q [] = refl
filter_both p q (x ∷ xs) = go (p x) (q x) refl (filter_both p q xs)
  where
    go : (a b : Bool) → p x ≡ a → filter (λ x. p x && q x) xs ≡ filter p (filter q xs)
        → cond (a && b) (x ∷ filter (λ x. p x && q x) xs) (filter (λ x. p x && q x) xs) ≡ filter p (cond b (x ∷ filter q xs) (filter q xs))
    go true true e ih = ap (λ l. x ∷ l) ih ∙ sym (cond-true _ _ _ e)
    go false true e ih = ih ∙ sym (cond-false _ _ _ e)
    go true false e ih = ih
    go false false e ih = ih

pub map_same : {A B : Type 0} (f g : A → B) (xs : List A) → ((x : A) → Contains xs x → f x ≡ g x) → map f xs ≡ map g xs
map_same f g [] h = refl
map_same f g (x ∷ xs) h = ap (λ y. y ∷ map f xs) (h x (contains_here x xs)) ∙ ap (λ l. g x ∷ l) (map_same f g xs (λ y c. h y (contains_there y x xs c)))

module _ {State Body Piece : Type 0} (m : Machine State Body Piece) where
  pub open_after : (e : Event Body) (h : List (Event Body)) → open_audits m (e ∷ h) ≡ filter (λ t. nat_lt e.key.time t) (open_audits m h)
  open_after e h = filter_both (λ t. nat_lt e.key.time t) _ m.audit_times

  -- an open audit sees the states as they are
  pub open_see : (p : ℕ → Bool) (h : List (Event Body)) → map (audit_at m h) (filter p (open_audits m h))
      ≡ map (λ t. m.audit t (state m h)) (filter p (open_audits m h))
  open_see p h = map_same (audit_at m h) (λ t. m.audit t (state m h)) (filter p (open_audits m h))
      (λ t c. audits_see_all m h t (filter_contains p (open_audits m h) t c).0)

  pub output_next : (e : Event Body) (h : List (Event Body))
      → output m (e ∷ h) ≡ output m h ++ (map (λ t. m.audit t (state m h)) (filter (λ t. nat_le t e.key.time) (open_audits m h))
      ++ (effect_after m h e).piece ∷ [])
  output_next e h = ap (λ l. output m h ++ (l ++ (effect_after m h e).piece ∷ [])) (open_see (λ t. nat_le t e.key.time) h)

  pub trace_at_end : (h : List (Event Body)) → next m h ≡ None → trace m h ≡ output m h ++ map (λ t. m.audit t (state m h)) (open_audits m h)
  trace_at_end h e = ap (λ o. output m h ++ (if is_none o then map (audit_at m h) (open_audits m h) else [])) e
      ∙ ap (λ l. output m h ++ l) (map_same (audit_at m h) (λ t. m.audit t (state m h)) (open_audits m h) (λ t c. audits_see_all m h t c))
