-- Which fingers start on a way, and which of two places is met first.
use Rattle.std.proofs.Common.{◌≡◌, ◌==◌, ◌||◌, ◌&&◌, ◌∙◌, ℕ, ◌+◌, ◌-◌, ◌^◌, ◌<◌, ◌≤◌, true, false, nat_lt, refl, sym, ap, arith, inl, inr, ◌⊎◌}
use Rattle.std.proofs.Math.Pow.{pow_mono}
use Rattle.std.proofs.Math.Nat.{mod-lt}
use Rattle.std.proofs.lemmas.Bool.{cases_Bool}
use Rattle.std.proofs.lemmas.Bool.Decides.{nat_tests}
use Rattle.std.proofs.lemmas.Nat.{pow_pos}
use Rattle.std.specs.Prelude.{max}
use native.Mathlib.Decide.{dec_lt}
use Rattle.chord_circle.specs.Circle.{digit_count, distance, finger_beyond, finger_start, in_half_open}
use Rattle.chord_circle.proofs.Digits.{has_digits}
use Rattle.chord_circle.proofs.Distance.{distance-ahead, distance-behind, distance-injective}
use Rattle.chord_circle.proofs.Powers.{finger-ahead, finger-past, finger-within, way_within}

pub met_first : (bits a x b : ℕ) → a < 2 ^ bits → x < 2 ^ bits → b < 2 ^ bits → in_half_open bits a x b ≡ false → distance bits x a < distance bits x b
met_first bits a x b ha hx hb out =
    grind (
      arith,
      nat_tests,
      distance-ahead bits a x,
      distance-behind bits a x,
      distance-ahead bits a b,
      distance-behind bits a b,
      distance-ahead bits x a,
      distance-behind bits x a,
      distance-ahead bits x b,
      distance-behind bits x b,
    )

-- a finger starts as far away as it says
start_way : (bits a i : ℕ) → a < 2 ^ bits → 1 ≤ i → i ≤ bits → distance bits a (finger_start bits a i) ≡ 2 ^ (i - 1)
start_way bits a i ha first last =
    let top : ℕ = 2 ^ bits - 1 in
    let whole : top + 1 ≡ 2 ^ bits = omega (arith, ha) in
    let way : 2 ^ (i - 1) < 2 ^ bits = way_within bits i first last in
    elim (dec_lt top (a + 2 ^ (i - 1))) [
      | yes past ↦
          let start = finger-past bits a i top whole (omega (arith, ha, whole)) (omega (arith, way, whole)) past in
          omega (arith, start, distance-behind bits a (finger_start bits a i) (omega (arith, start, past, way, whole)) ha, past, way, whole, ha)
      | no ahead ↦
          let start = finger-ahead bits a i top whole (omega (arith, ahead)) in
          omega (arith, start, distance-ahead bits a (finger_start bits a i) (omega (arith, start)) (omega (arith, start, ahead, whole)))
    ]

open_true : (x b d way : ℕ) → (x ≡ b) ⊎ ((0 < d) × (d < way)) → ((x == b) || (nat_lt 0 d && nat_lt d way)) ≡ true
open_true x b d way (inl same) = grind (arith, nat_tests)
open_true x b d way (inr on) = grind (arith, nat_tests)

open_false : (x b d way : ℕ) → (x ≡ b → ⊥) → way ≤ d → ((x == b) || (nat_lt 0 d && nat_lt d way)) ≡ false
open_false x b d way other past = grind (arith, nat_tests)

less_true : (i n : ℕ) → i < n → nat_lt i n ≡ true
less_true i n less = grind (arith, nat_tests)

less_false : (i n : ℕ) → n ≤ i → nat_lt i n ≡ false
less_false i n more = grind (arith, nat_tests)

-- a finger that starts no farther away than the way goes starts on it
starts_on : (bits a b i : ℕ) → bits ≤ 128 → a < 2 ^ bits → b < 2 ^ bits → 2 ≤ i → i ≤ bits → (a == b) ≡ false
    → in_half_open bits a (finger_start bits a i) b ≡ nat_lt i (max 2 (digit_count (distance bits a b) + 1))
starts_on bits a b i narrow ha hb first last other =
    let start : ℕ = finger_start bits a i in
    let way : ℕ = distance bits a b in
    let start_at : distance bits a start ≡ 2 ^ (i - 1) = start_way bits a i ha (omega (arith, first)) last in
    let start_is : start < 2 ^ bits = finger-within bits a i in
    let way_is : way < 2 ^ bits = mod-lt _ (pow_pos bits) in
    let top : 2 ^ bits ≤ 2 ^ 128 = pow_mono narrow in
    let digits = has_digits way (omega (arith, way_is, top)) in
    let some : 0 < 2 ^ (i - 1) = pow_pos (i - 1) in
    elim (dec_lt way (2 ^ (i - 1))) [
      | yes beyond ↦
          let far : digit_count way ≤ i - 1 = elim (dec_lt (i - 1) (digit_count way)) [
            | yes more ↦ let low = digits.above (i - 1) more in absurd (omega (arith, low, beyond))
            | no not_more ↦ omega arith
          ] in
          rw other (open_false start b (distance bits a start) way
          (λ same. let met : distance bits a start ≡ way = ap (distance bits a) same in omega (arith, met, start_at, beyond)) (omega (arith, start_at, beyond)))
          ∙ sym (less_false i (max 2 (digit_count way + 1)) (omega (arith, far, first)))
      | no within ↦
          let near : i - 1 < digit_count way = elim (dec_lt (i - 1) (digit_count way)) [
            | yes more ↦ more
            | no not_more ↦ let power : 2 ^ digit_count way ≤ 2 ^ (i - 1) = pow_mono (omega arith) in absurd (omega (arith, digits.below, power, within))
          ] in
          let on : (start ≡ b) ⊎ ((0 < distance bits a start) × (distance bits a start < way)) = elim (dec_lt (2 ^ (i - 1)) way) [
            | yes less ↦ inr (omega (arith, start_at, some), omega (arith, start_at, less))
            | no not_less ↦ inl (distance-injective bits a start b ha start_is hb (omega (arith, start_at, within)))
          ] in
          rw other (open_true start b (distance bits a start) way on) ∙ sym (less_true i (max 2 (digit_count way + 1)) (omega (arith, near)))
    ]

pub starts_in_order : (bits a b i : ℕ) → bits ≤ 128 → a < 2 ^ bits → b < 2 ^ bits → 2 ≤ i → i ≤ bits
    → in_half_open bits a (finger_start bits a i) b ≡ nat_lt i (finger_beyond bits a b)
starts_in_order bits a b i narrow ha hb first last =
    elim (cases_Bool (a == b)) [
      | inl same ↦
          let start_at : distance bits a (finger_start bits a i) ≡ 2 ^ (i - 1) = start_way bits a i ha (omega (arith, first)) last in
          let some : 0 < 2 ^ (i - 1) = pow_pos (i - 1) in
          let way : 2 ^ (i - 1) < 2 ^ bits = way_within bits i (omega (arith, first)) last in
          rw same (open_true (finger_start bits a i) b (distance bits a (finger_start bits a i)) (2 ^ bits)
          (inr (omega (arith, start_at, some), omega (arith, start_at, way)))
          ∙ sym (less_true i (bits + 1) (omega (arith, last))))
      | inr other ↦ starts_on bits a b i narrow ha hb first last other ∙ sym (rw other refl)
    ]
