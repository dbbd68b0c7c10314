-- The nodes with the least heights.
use Rattle.std.proofs.Common.{◌≡◌, ◌≢◌, ◌∙◌, ap, refl, ℕ, zero, suc, ◌+◌, ◌<◌, ◌≤◌, ◌==◌, false, List, [], ◌∷◌, length, drop, get_or, nat_lt, Option, Some, None, inl, inr, arith, eq-eqb, ne_eqb}
use Rattle.std.proofs.lemmas.Bool.{cases_Bool}
use Rattle.std.proofs.lemmas.Bool.Decides.{nat_tests}
use Rattle.std.proofs.lemmas.List.{drop_more}
use Rattle.chord_scenario.specs.declared.setting.Coordinates.{Coordinates}
use Rattle.chord_scenario.specs.Faults.{lower, lowest_from}

origin : Coordinates
origin = record { x = 0; y = 0; height = 0 }

-- the node that is left out changes nothing
pub lowest-left_out : (left_out i : ℕ) (cs : List Coordinates) → i < length cs → i ≡ left_out
    → lowest_from left_out i (drop i cs) ≡ lowest_from left_out (i + 1) (drop (i + 1) cs)
lowest-left_out left_out i cs within same = ap (lowest_from left_out i) (drop_more cs i origin within) ∙ rw (eq-eqb i left_out same) refl

lower-least : (one : ℕ × ℕ) (later : Option (ℕ × ℕ)) → (lower one later).1 ≤ one.1
lower-least one None = omega arith
lower-least one (Some other) =
    elim (cases_Bool (nat_lt other.1 one.1)) [
      | inl less ↦ rw less (grind (arith, nat_tests))
      | inr not_less ↦ rw not_less (omega arith)
    ]

lower-later : (one other : ℕ × ℕ) → (lower one (Some other)).1 ≤ other.1
lower-later one other =
    elim (cases_Bool (nat_lt other.1 one.1)) [
      | inl less ↦ rw less (omega arith)
      | inr not_less ↦ rw not_less (grind (arith, nat_tests))
    ]

-- no node but the one that is left out is lower than the lowest
pub lowest-least : (left_out n : ℕ) (cs : List Coordinates) (k : ℕ) (d : Coordinates) → k < length cs → n + k ≢ left_out
    → (low : ℕ × ℕ) × (lowest_from left_out n cs ≡ Some low) × (low.1 ≤ (get_or cs k d).height)
lowest-least left_out n [] k d within apart = absurd (omega arith)
lowest-least left_out n (c ∷ cs) zero d within apart =
    let other : (n == left_out) ≡ false = ne_eqb n left_out (λ same. apart (omega (arith, same))) in
    (lower (n, c.height) (lowest_from left_out (n + 1) cs), rw other refl, lower-least (n, c.height) (lowest_from left_out (n + 1) cs))
lowest-least left_out n (c ∷ cs) (suc k) d within apart =
    let (later, is, least) = lowest-least left_out (n + 1) cs k d (omega arith) (λ same. apart (omega (arith, same))) in
    elim (cases_Bool (n == left_out)) [
      | inl skipped ↦ (later, rw (skipped, is) refl, least)
      | inr kept ↦ (lower (n, c.height) (Some later), rw (kept, is) refl, omega (arith, least, lower-later (n, c.height) later))
    ]
