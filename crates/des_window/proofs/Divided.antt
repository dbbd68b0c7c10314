-- The parts of nodes that are dealt, or divided into blocks.
use Rattle.std.proofs.Common.{◌≡◌, ◌∙◌, ◌+◌, ◌*◌, ◌<◌, ◌++◌, ◌∷◌, [], ℕ, List, map, ap, sym, subst, arith}
use Rattle.std.specs.List.{All, range_with_len}
use Rattle.std.proofs.lemmas.List.Elements.{All-push}
use Rattle.std.proofs.lemmas.List.FromFn.{map-range_with_len_more}
use Rattle.std.proofs.Math.Nat.{div-lt_iff_lt-mul, mul_comm, mul-lt-mul_of_pos_right}
use Rattle.des_window.specs.Divisions.{block_part}

-- one more node has its part
pub one_more : (f : ℕ → ℕ) (parts n : ℕ) (old new : List ℕ) → old ≡ map f (range_with_len 0 n) → All (λ p. p < parts) old → new ≡ old ++ f n ∷ [] → f n < parts
    → (new ≡ map f (range_with_len 0 (n + 1))) × All (λ p. p < parts) new
one_more f parts n old new are below more in_range = (
  more ∙ ap (λ l. l ++ f n ∷ []) are ∙ sym (map-range_with_len_more f 0 n n (omega arith)),
  subst (All (λ p. p < parts)) (sym more)
      (All-push (λ p. p < parts) old (f n) below in_range),
)

-- the block of a node is one of the parts
pub block_below : (nodes parts n : ℕ) → n < nodes → 0 < parts → block_part nodes parts n < parts
block_below nodes parts n inside some = (div-lt_iff_lt-mul {k = nodes} {x = n * parts} {y = parts} (omega arith)).1
    (subst (λ m. n * parts < m) (mul_comm nodes parts) (mul-lt-mul_of_pos_right {m = n} {n = nodes} {k = parts} inside some))
