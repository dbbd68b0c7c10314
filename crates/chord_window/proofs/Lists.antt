-- Lists that a loop goes through.
use Rattle.std.proofs.Common.{◌≡◌, ◌∙◌, List, [], ◌∷◌, ◌++◌, length, ap, append-nil, sym, subst}
use Rattle.std.proofs.lemmas.List.{nil_from_length}
use Rattle.std.specs.List.{All, Contains}
use Rattle.des_event.proofs.Members.{All_at, contains_here, contains_left, contains_right}

-- what holds of all holds of the next
pub next_of : {A : Type 0} (P : A → Type 0) (yielded rest : List A) (next : A) (all : List A) → (yielded ++ next ∷ []) ++ rest ≡ all → All P all → P next
next_of P yielded rest next all whole holds = All_at P all next holds
    (subst (λ l. Contains l next) whole (contains_left (yielded ++ next ∷ []) rest next (contains_right yielded (next ∷ []) next (contains_here next []))))

-- at the end all were yielded
pub all_yielded : {A : Type 0} (yielded rest all : List A) → yielded ++ rest ≡ all → length rest ≡ 0 → all ≡ yielded
all_yielded yielded rest all whole none = sym whole ∙ (ap (λ l. yielded ++ l) (nil_from_length rest none) ∙ append-nil yielded)
