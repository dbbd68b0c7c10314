-- What the events of a window add to the shares of the parts.
use Rattle.std.proofs.Common.{◌≡◌, ◌∙◌, ℕ, Bool, true, false, cond, List, [], ◌∷◌, ◌++◌, map, reverse, refl, ap, sym, append_assoc, append-nil}
use Rattle.std.specs.Prelude.{◌==◌}
use Rattle.std.specs.List.{filter}
use mathlib.Core.List.{reverse-cons}
use Rattle.des_event.specs.declared.event.Event.{Event}
use Rattle.des_model.specs.Histories.{effect_after}
use Rattle.des_model.specs.Windows.{Division, part_of, pieces_since}
use Rattle.des_model.specs.Machine.{Machine}
use Rattle.des_team.specs.Owned.{share_of}

filter_twice : {A : Type 0} (keep : A → Bool) (xs : List A) → filter keep (filter keep xs) ≡ filter keep xs
filter_twice keep [] = refl
filter_twice {A} keep (x ∷ xs) = go (keep x) refl (filter_twice keep xs)
  where
    go : (b : Bool) → keep x ≡ b → filter keep (filter keep xs) ≡ filter keep xs
        → filter keep (cond b (x ∷ filter keep xs) (filter keep xs)) ≡ cond b (x ∷ filter keep xs) (filter keep xs)
    go true e rest = ap (λ c. cond c (x ∷ filter keep (filter keep xs)) (filter keep (filter keep xs))) e ∙ ap (λ l. x ∷ l) rest
    go false e rest = rest

module _ {State Body Piece : Type 0} (m : Machine State Body Piece) (d : Division) (part : ℕ) (h : List (Event Body)) where
  -- the pieces of the part's events among those that follow h
  abbrev own : List (Event Body) → List (Event Body × Piece)
  own g = filter (λ b. part_of d b.0.target == part) (pieces_since m h g)

  share_since : (g : List (Event Body)) → share_of m d part (g ++ h) ≡ share_of m d part h ++ reverse (map (λ b. b.1) (own g))
  share_since [] = sym (append-nil (share_of m d part h))
  share_since (e ∷ g) = go (part_of d e.target == part) (share_since g)
    where
      go : (b : Bool) → share_of m d part (g ++ h) ≡ share_of m d part h ++ reverse (map (λ b. b.1) (own g))
          → cond b (share_of m d part (g ++ h) ++ (effect_after m (g ++ h) e).piece ∷ []) (share_of m d part (g ++ h))
          ≡ share_of m d part h ++ reverse (map (λ b. b.1) (cond b ((e, (effect_after m (g ++ h) e).piece) ∷ own g) (own g)))
      go true rest = ap (λ l. l ++ (effect_after m (g ++ h) e).piece ∷ []) rest
          ∙ append_assoc (share_of m d part h) (reverse (map (λ b. b.1) (own g))) ((effect_after m (g ++ h) e).piece ∷ [])
          ∙ ap (λ l. share_of m d part h ++ l) (sym (reverse-cons (effect_after m (g ++ h) e).piece (map (λ b. b.1) (own g))))
      go false rest = rest

  -- the part's own events add as much as all of the window
  pub share_same : (ran taken : List (Event Body))
      → pieces_since m h ran ≡ filter (λ b. part_of d b.0.target == part) (pieces_since m h taken)
      → share_of m d part (ran ++ h) ≡ share_of m d part (taken ++ h)
  share_same ran taken pieces = share_since ran
      ∙ ap (λ ps. share_of m d part h ++ reverse (map (λ b. b.1) (filter (λ b. part_of d b.0.target == part) ps))) pieces
      ∙ ap (λ ps. share_of m d part h ++ reverse (map (λ b. b.1) ps))
      (filter_twice (λ b. part_of d b.0.target == part) (pieces_since m h taken))
      ∙ sym (share_since taken)
