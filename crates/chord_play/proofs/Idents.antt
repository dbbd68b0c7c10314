-- The lines of `ids`, one node after another.
use Rattle.std.proofs.Common.{◌≡◌, ◌∙◌, ◌+◌, ◌-◌, ◌<◌, ◌++◌, ℕ, List, suc, arith, append_assoc}
use Rattle.std.specs.List.{flat_map, range_with_len}

-- the lines so far and those of the nodes left are all: so it is after one more
pub one_more : (f : ℕ → List ℕ) (lines more whole : List ℕ) (at n : ℕ) → at < n → more ≡ lines ++ f at
    → lines ++ flat_map f (range_with_len at (n - at)) ≡ whole → more ++ flat_map f (range_with_len (at + 1) (n - (at + 1))) ≡ whole
one_more f lines more whole at n below added so_far =
    let left = flat_map f (range_with_len (at + 1) (n - (at + 1))) in
    let first : n - at ≡ suc (n - (at + 1)) = omega (arith, below) in
    let split : lines ++ (f at ++ left) ≡ whole = rw first at so_far in
    rw added (append_assoc lines (f at) left ∙ split)
