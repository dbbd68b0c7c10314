-- The binary digits of a distance tell which fingers begin beyond it.
use Rattle.std.proofs.Common.{◌≡◌, ◌==◌, ℕ, ◌+◌, ◌^◌, ◌<◌, ◌≤◌, Bool, true, false, zero, suc, arith, sym, subst}
use Rattle.std.proofs.Math.Nat.{mod-lt}
use Rattle.std.proofs.Math.Pow.{pow_mono}
use Rattle.std.proofs.lemmas.Nat.{leading_top, pow_pos}
use Rattle.std.specs.Int.Count.{leading_of_zero}
use Rattle.std.specs.Prelude.{max, if◌then◌else◌}
use native.Mathlib.Decide.{dec_lt}
use Rattle.chord_circle.specs.Circle.{digit_count, distance, finger_beyond}

-- a distance lies below the power of its digits, and not below a lower power
pub record HasDigits (d : ℕ) : Type 0 where
  pub below : d < 2 ^ digit_count d
  pub above : (i : ℕ) → i < digit_count d → 2 ^ i ≤ d

pub has_digits : (d : ℕ) → d < 2 ^ 128 → HasDigits d
has_digits zero fits =
    let none : digit_count zero ≡ 0 = omega (arith, leading_of_zero 128) in
    record { below = pow_pos (digit_count zero); above = λ i less. absurd (omega (arith, less, none)) }
has_digits (suc n) fits =
    let (j, count, low, high) = leading_top 128 (suc n) (omega arith) fits in
    let digits : digit_count (suc n) ≡ suc j = omega (arith, count) in
    record {
      below = subst (λ (k : ℕ). suc n < 2 ^ k) (sym digits) high;
      above = λ i less. let power : 2 ^ i ≤ 2 ^ j = pow_mono (omega (arith, less, digits)) in omega (arith, power, low);
    }

pub digits_most : (bits d : ℕ) → bits ≤ 128 → d < 2 ^ bits → digit_count d ≤ bits
digits_most bits d most less =
    let power : 2 ^ bits ≤ 2 ^ 128 = pow_mono most in
    elim (dec_lt bits (digit_count d)) [
      | yes more ↦ let beyond = (has_digits d (omega (arith, less, power))).above bits more in absurd (omega (arith, less, beyond))
      | no not_more ↦ omega arith
    ]

-- the finger that begins beyond a place is one from the second on, or comes after the last
pub record IsBeyond (bits finger : ℕ) : Type 0 where
  pub least : 2 ≤ finger
  pub greatest : finger ≤ bits + 1

pub beyond_within : (bits a b : ℕ) → 3 ≤ bits → bits ≤ 128 → IsBeyond bits (finger_beyond bits a b)
beyond_within bits a b wide narrow = by (a == b)
  where
    by : (same : Bool) → IsBeyond bits (if same then bits + 1 else max 2 (digit_count (distance bits a b) + 1))
    by true = record { least = omega (arith, wide); greatest = omega arith }
    by false =
        let digits : digit_count (distance bits a b) ≤ bits = digits_most bits (distance bits a b) narrow (mod-lt _ (pow_pos bits)) in
        record { least = omega arith; greatest = omega (arith, digits, wide) }
