-- Powers of two that a circle's numbers are made of.
use Rattle.std.proofs.Common.{◌≡◌, ℕ, ◌+◌, ◌-◌, ◌*◌, ◌/◌, ◌%◌, ◌^◌, ◌<◌, ◌≤◌, arith, ap, sym, subst, ◌∙◌}
use Rattle.std.proofs.Math.Nat.{add-mod_right, mod-eq_of_lt, mod-lt, div-lt_iff_lt-mul}
use Rattle.std.proofs.Math.Pow.{pow-lt}
use Rattle.std.proofs.lemmas.Nat.{pow_pos, pow-add}
use Rattle.chord_circle.specs.Circle.{finger_start}

-- how far finger i begins from its node
pub way_within : (bits i : ℕ) → 1 ≤ i → i ≤ bits → 2 ^ (i - 1) < 2 ^ bits
way_within bits i first last = let less : i - 1 < bits = omega arith in pow-lt less

-- the machine shifts to it
pub way_shifted : (bits i : ℕ) → 1 ≤ i → i ≤ bits → bits ≤ 128 → 1 * 2 ^ (i - 1) % 340282366920938463463374607431768211456 ≡ 2 ^ (i - 1)
way_shifted bits i first last most =
    let fits : 1 * 2 ^ (i - 1) < 2 ^ 128 = omega (arith, way_within 128 i first (omega arith)) in
    mod-eq_of_lt fits ∙ omega arith

-- the finger begins ahead, or past 0
pub finger-ahead : (bits a i last : ℕ) → last + 1 ≡ 2 ^ bits → a + 2 ^ (i - 1) ≤ last → a + 2 ^ (i - 1) ≡ finger_start bits a i
finger-ahead bits a i last top within = let small : a + 2 ^ (i - 1) < 2 ^ bits = omega arith in sym (mod-eq_of_lt small)

pub finger-past : (bits a i last : ℕ) → last + 1 ≡ 2 ^ bits → a ≤ last → 2 ^ (i - 1) ≤ last → last < a + 2 ^ (i - 1)
    → 2 ^ (i - 1) - (last - a) - 1 ≡ finger_start bits a i
finger-past bits a i last top at way past =
    let rest : ℕ = 2 ^ (i - 1) - (last - a) - 1 in
    let small : rest < 2 ^ bits = omega arith in
    let whole : a + 2 ^ (i - 1) ≡ rest + 2 ^ bits = omega arith in
    sym (ap (λ (n : ℕ). n % 2 ^ bits) whole ∙ add-mod_right rest (2 ^ bits) ∙ mod-eq_of_lt small)

-- the leading bits of a word
pub leading_within : (bits word : ℕ) → bits ≤ 128 → word < 2 ^ 128 → word / 2 ^ (128 - bits) < 2 ^ bits
leading_within bits word most fits =
    let split : bits + (128 - bits) ≡ 128 = omega arith in
    let bound : word < 2 ^ bits * 2 ^ (128 - bits) = subst (λ (n : ℕ). word < n) (ap (λ (n : ℕ). 2 ^ n) (sym split) ∙ pow-add 2 bits (128 - bits)) fits in
    (div-lt_iff_lt-mul (pow_pos (128 - bits))).1 bound

pub finger-within : (bits a i : ℕ) → finger_start bits a i < 2 ^ bits
finger-within bits a i = mod-lt (a + 2 ^ (i - 1)) (pow_pos bits)
