-- What the events of a window add to the trace.
use Rattle.std.proofs.Common.{◌≡◌, ℕ, List, [], ◌∷◌, ◌++◌, refl, ap, sym, ◌∙◌, inl, inr, ◌⊎◌, eq-eqb}
use Rattle.std.proofs.lemmas.Bool.{cases_eq, cond-true, cond-false, ne_eqb}
use Rattle.std.specs.Prelude.{◌==◌}
use Rattle.std.specs.List.{filter}
use Rattle.des_event.specs.declared.event.Event.{Event}
use Rattle.des_model.specs.Machine.{Machine}
use Rattle.des_model.specs.Histories.{effect_after}
use Rattle.des_model.specs.Windows.{Division, part_of, restrict, pieces_since}
use Rattle.des_model.proofs.Parts.{restrict_in, restrict_out, effect-restrict}

module _ {State Body Piece : Type 0} (m : Machine State Body Piece) (d : Division) (h : List (Event Body)) (p : ℕ) where
  pub pieces-restrict : (g : List (Event Body)) → pieces_since m h (restrict d p g) ≡ filter (λ b. part_of d b.0.target == p) (pieces_since m h g)
  pieces-restrict [] = refl
  pieces-restrict (e ∷ g) = go (cases_eq (part_of d e.target) p) (pieces-restrict g)
    where
      go : (part_of d e.target ≡ p) ⊎ (part_of d e.target ≡ p → ⊥) → pieces_since m h (restrict d p g)
          ≡ filter (λ b. part_of d b.0.target == p) (pieces_since m h g)
          → pieces_since m h (restrict d p (e ∷ g)) ≡ filter (λ b. part_of d b.0.target == p) (pieces_since m h (e ∷ g))
      go (inl s) ih =
          ap (pieces_since m h) (restrict_in d p e g s)
          ∙ (ap (λ z. (e, z.piece) ∷ pieces_since m h (restrict d p g)) (sym (effect-restrict m d h p g e s))
          ∙ (ap (λ z. (e, (effect_after m (g ++ h) e).piece) ∷ z) ih ∙ sym (cond-true _ _ _ (eq-eqb (part_of d e.target) p s))))
      go (inr s) ih = ap (pieces_since m h) (restrict_out d p e g s) ∙ (ih ∙ sym (cond-false _ _ _ (ne_eqb (part_of d e.target) p s)))
