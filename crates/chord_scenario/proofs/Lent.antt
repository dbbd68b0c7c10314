-- What is lent at a place of a list is the item there.
use Rattle.std.proofs.Common.{◌≡◌, ◌∙◌, sym, ap, refl, ℕ, List, Bor, Option, None, Some, slice_get, length, get_or, nat_lt, IfSome, option_copied, is_some}
use Rattle.std.proofs.lemmas.Bool.{false≢true, ltb-true, lt-ltb}
use Rattle.std.proofs.lemmas.Option.{slice_get-get_or, slice_get_within}

pub lent : {A : Type 0} (xs : List A) (k : ℕ) (o : Option (Bor A)) → is_some o ≡ nat_lt k (length xs) → IfSome o (λ x. x.now ≡ get_or xs k x.now)
    → option_copied o ≡ slice_get xs k
lent {A = A} xs k None some is = nothing (slice_get xs k) refl
  where
    nothing : (found : Option A) → slice_get xs k ≡ found → None ≡ found
    nothing None e = refl
    nothing (Some x) e = absurd (false≢true (some ∙ lt-ltb k (length xs) (slice_get_within xs k x e)))
lent xs k (Some x) some is = ap Some is ∙ sym (slice_get-get_or xs k x.now (ltb-true k (length xs) (sym some)))
