-- What holds of the named run.
use Rattle.std.proofs.Common.{◌≡◌, Option, Some, subst, sym}
use Rattle.std.specs.Prelude.{IfSome}
use Rattle.des_team.specs.declared.layout.Layout.{Layout}

-- what holds of this run holds of the named one
pub to_name : {M : Type 0} (run : Option (M × Layout)) (machine : M) (l : Layout) (P : M → Layout → Type 0) → run ≡ Some (machine, l) → P machine l
    → IfSome run (λ r. P r.0 r.1)
to_name run machine l P is p = subst (λ o. IfSome o (λ r. P r.0 r.1)) (sym is) p
