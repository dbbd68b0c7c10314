-- Results of parts, one after another.
use Rattle.std.proofs.Common.{◌≡◌, ◌+◌, ℕ, suc, List, [], ◌∷◌, ◌++◌, Option, Some, length, sym, subst, arith}
use Rattle.std.specs.Prelude.{IfSome}
use Rattle.des_team.specs.Chronicles.{Chronicle}
use Rattle.des_team.specs.declared.layout.Layout.{Layout}
use Rattle.des_team.specs.declared.part.Done.{Done}
use Rattle.des_team.specs.Orders.{AreResultsFrom, IsResultOf}

module _ {M : Type 0} where
  -- what holds of the named run holds of this one
  pub of_name : (run : Option (M × Layout)) (machine : M) (l : Layout) (P : M → Layout → Type 0) → run ≡ Some (machine, l) → IfSome run (λ r. P r.0 r.1)
      → P machine l
  of_name run machine l P is p = subst (λ o. IfSome o (λ r. P r.0 r.1)) is p

  pub to_name : (run : Option (M × Layout)) (machine : M) (l : Layout) (P : M → Layout → Type 0) → run ≡ Some (machine, l) → P machine l
      → IfSome run (λ r. P r.0 r.1)
  to_name run machine l P is p = subst (λ o. IfSome o (λ r. P r.0 r.1)) (sym is) p

module _ {M State Body Piece S : Type 0} where
  -- the result of one part more
  pub push_result : (ch : Chronicle State Body Piece S) (l : Layout) (count horizon k part : ℕ) (fs : List (Done M S State Body Piece))
      (f : Done M S State Body Piece) → AreResultsFrom ch l count horizon k fs
      → part ≡ k + length fs → IsResultOf ch l part count horizon f → AreResultsFrom ch l count horizon k (fs ++ f ∷ [])
  push_result ch l count horizon k part [] f each at is = (subst (λ p. IsResultOf ch l p count horizon f) (omega (arith, at)) is, tt)
  push_result ch l count horizon k part (g ∷ fs) f each at is =
      (each.0, push_result ch l count horizon (suc k) part fs f each.1 (omega (arith, at)) is)
