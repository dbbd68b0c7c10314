-- The first 32 bits of a way are the wrapped difference of those of its ends, or one less, if that difference is not 0.
use Rattle.std.proofs.Common.{◌≡◌, ℕ, ◌+◌, ◌-◌, ◌*◌, ◌/◌, ◌%◌, ◌^◌, ◌<◌, ◌≤◌, ◌∙◌, arith, ap, sym, subst}
use Rattle.std.proofs.Math.Nat.{add-div_right, div-lt_iff_lt-mul, mod-lt}
use Rattle.std.proofs.lemmas.Bool.Decides.{nat_tests}
use Rattle.std.proofs.lemmas.Grind.{common_steps}
use Rattle.std.proofs.lemmas.Nat.{div-add-mod', le-div, pow-add, pow_pos}
use native.Mathlib.Decide.{dec_lt}
use Rattle.chord_circle.specs.Circle.{distance, leading}
use Rattle.chord_circle.proofs.Distance.{distance-ahead, distance-behind}

leading-few : (bits x : ℕ) → bits < 32 → leading bits x ≡ 0
leading-few bits x few = grind (arith, nat_tests)

leading-many : (bits x : ℕ) → 32 ≤ bits → leading bits x ≡ x / 2 ^ (bits - 32)
leading-many bits x many = grind (arith, nat_tests)

-- a circle of 32 bits or more is 4294967296 equal parts, and the first 32 bits of a place are the number of its part
parts : (bits : ℕ) → 32 ≤ bits → 2 ^ bits ≡ 4294967296 * 2 ^ (bits - 32)
parts bits many =
    let split : 32 + (bits - 32) ≡ bits = omega arith in
    ap (λ (n : ℕ). 2 ^ n) (sym split) ∙ pow-add 2 32 (bits - 32)

-- the number of a part fits in 32 bits
pub part_below : (bits x : ℕ) → 32 ≤ bits → x < 2 ^ bits → x / 2 ^ (bits - 32) < 4294967296
part_below bits x many within =
    let bound : x < 4294967296 * 2 ^ (bits - 32) = omega (arith, parts bits many, within) in
    (div-lt_iff_lt-mul (pow_pos (bits - 32))).1 bound

pub leading-below : (bits x : ℕ) → x < 2 ^ bits → leading bits x < 4294967296
leading-below bits x within =
    elim (dec_lt bits 32) [
      | yes few ↦ omega (arith, leading-few bits x few)
      | no not_few ↦ let many : 32 ≤ bits = omega arith in omega (arith, leading-many bits x many, part_below bits x many within)
    ]

-- a quotient is not less for a greater number
div-mono : (q x y : ℕ) → 0 < q → x ≤ y → x / q ≤ y / q
div-mono q x y some most = le-div (x / q) y q some (omega (arith, div-add-mod' x q, most))

pub leading-mono : (bits x y : ℕ) → x ≤ y → leading bits x ≤ leading bits y
leading-mono bits x y most =
    elim (dec_lt bits 32) [
      | yes few ↦ omega (arith, leading-few bits x few, leading-few bits y few)
      | no not_few ↦
          let many : 32 ≤ bits = omega arith in
          let order : x / 2 ^ (bits - 32) ≤ y / 2 ^ (bits - 32) = div-mono (2 ^ (bits - 32)) x y (pow_pos (bits - 32)) most in
          omega (arith, leading-many bits x many, leading-many bits y many, order)
    ]

pub leading-less : (bits x y : ℕ) → leading bits x < leading bits y → x < y
leading-less bits x y less =
    elim (dec_lt x y) [
      | yes ahead ↦ ahead
      | no not_ahead ↦ let order : leading bits y ≤ leading bits x = leading-mono bits y x (omega arith) in absurd (omega (arith, order, less))
    ]

-- a way of this many parts, give or take less than one part, has that many whole parts or one less
parts-most : (q near way x a : ℕ) → 0 < q → x < q → way + a ≡ near * q + x → way / q ≤ near
parts-most q near way x a some less e =
    let product : (near + 1) * q ≡ near * q + q = grind (arith, common_steps) in
    let below : way / q < near + 1 = (div-lt_iff_lt-mul some).1 (omega (arith, product, e, less)) in
    omega (arith, below)

parts-least : (q near way x a : ℕ) → 0 < q → a < q → way + a ≡ near * q + x → near ≤ way / q + 1
parts-least q near way x a some less e =
    let enough : near ≤ (way + q) / q = le-div near (way + q) q some (omega (arith, e, less)) in
    subst (λ (n : ℕ). near ≤ n) (add-div_right way some) enough

-- the wrapped difference of two numbers of parts, ahead and behind
near-ahead : (a x : ℕ) → a ≤ x → x < 4294967296 → (x + (4294967296 - a)) % 4294967296 ≡ x - a
near-ahead a x ahead within = omega arith

near-behind : (a x : ℕ) → x < a → a < 4294967296 → (x + (4294967296 - a)) % 4294967296 ≡ x + (4294967296 - a)
near-behind a x behind within = omega arith

-- the way from a to x, in parts and what is left over, if the wrapped difference of their parts is not 0. From x < a in one
-- part that difference would be 0
way-parts : (bits a x near : ℕ) → 32 ≤ bits → a < 2 ^ bits → x < 2 ^ bits
    → near ≡ (x / 2 ^ (bits - 32) + (4294967296 - a / 2 ^ (bits - 32))) % 4294967296 → 0 < near
    → distance bits a x + a % 2 ^ (bits - 32) ≡ near * 2 ^ (bits - 32) + x % 2 ^ (bits - 32)
way-parts bits a x near many ha hx e some =
    let q : ℕ = 2 ^ (bits - 32) in
    let part_a : ℕ = a / q in
    let part_x : ℕ = x / q in
    let whole_a : part_a * q + a % q ≡ a = div-add-mod' a q in
    let whole_x : part_x * q + x % q ≡ x = div-add-mod' x q in
    let fits_a : part_a < 4294967296 = part_below bits a many ha in
    let fits_x : part_x < 4294967296 = part_below bits x many hx in
    elim (dec_lt x a) [
      | no not_behind ↦
          let ahead : a ≤ x = omega arith in
          let order : part_a ≤ part_x = div-mono q a x (pow_pos (bits - 32)) ahead in
          let parts_between : near + part_a ≡ part_x = omega (arith, e, near-ahead part_a part_x order fits_x, order) in
          let product : (near + part_a) * q ≡ near * q + part_a * q = grind (arith, common_steps) in
          let both : near * q + part_a * q ≡ part_x * q = sym product ∙ ap (λ (n : ℕ). n * q) parts_between in
          omega (arith, distance-ahead bits a x ahead hx, both, whole_a, whole_x, ahead)
      | yes behind ↦
          let order : part_x ≤ part_a = div-mono q x a (pow_pos (bits - 32)) (omega (arith, behind)) in
          elim (dec_lt part_x part_a) [
            | yes part_behind ↦
                let parts_between : near + part_a ≡ part_x + 4294967296 = omega (arith, e, near-behind part_a part_x part_behind fits_a, fits_a) in
                let product : (near + part_a) * q ≡ near * q + part_a * q = grind (arith, common_steps) in
                let round : (part_x + 4294967296) * q ≡ part_x * q + 4294967296 * q = grind (arith, common_steps) in
                let both : near * q + part_a * q ≡ part_x * q + 4294967296 * q = sym product ∙ ap (λ (n : ℕ). n * q) parts_between ∙ round in
                omega (arith, distance-behind bits a x behind ha, both, whole_a, whole_x, behind, ha, parts bits many)
            | no same ↦ absurd (omega (arith, e, near-ahead part_a part_x (omega (arith, same)) fits_x, order, some))
          ]
    ]

-- the wrapped difference of leading bits is 0 on a circle of fewer than 32 bits
near-few : (bits a x : ℕ) → bits < 32 → (leading bits x + (4294967296 - leading bits a)) % 4294967296 ≡ 0
near-few bits a x few = omega (arith, leading-few bits a few, leading-few bits x few)

-- and otherwise that of the parts
near-many : (bits a x : ℕ) → 32 ≤ bits
    → (leading bits x + (4294967296 - leading bits a)) % 4294967296 ≡ (x / 2 ^ (bits - 32) + (4294967296 - a / 2 ^ (bits - 32))) % 4294967296
near-many bits a x many = omega (arith, leading-many bits a many, leading-many bits x many)

pub near-least : (bits a x : ℕ) → a < 2 ^ bits → x < 2 ^ bits → 0 < (leading bits x + (4294967296 - leading bits a)) % 4294967296
    → leading bits (distance bits a x) ≤ (leading bits x + (4294967296 - leading bits a)) % 4294967296
near-least bits a x ha hx some =
    let near : ℕ = (leading bits x + (4294967296 - leading bits a)) % 4294967296 in
    elim (dec_lt bits 32) [
      | yes few ↦ absurd (omega (arith, near-few bits a x few, some))
      | no not_few ↦
          let many : 32 ≤ bits = omega arith in
          let q : ℕ = 2 ^ (bits - 32) in
          let way : ℕ = distance bits a x in
          let e : way + a % q ≡ near * q + x % q = way-parts bits a x near many ha hx (near-many bits a x many) some in
          let most : way / q ≤ near = parts-most q near way (x % q) (a % q) (pow_pos (bits - 32)) (mod-lt x (pow_pos (bits - 32))) e in
          omega (arith, leading-many bits way many, most)
    ]

pub near-most : (bits a x : ℕ) → a < 2 ^ bits → x < 2 ^ bits → 0 < (leading bits x + (4294967296 - leading bits a)) % 4294967296
    → (leading bits x + (4294967296 - leading bits a)) % 4294967296 ≤ leading bits (distance bits a x) + 1
near-most bits a x ha hx some =
    let near : ℕ = (leading bits x + (4294967296 - leading bits a)) % 4294967296 in
    elim (dec_lt bits 32) [
      | yes few ↦ absurd (omega (arith, near-few bits a x few, some))
      | no not_few ↦
          let many : 32 ≤ bits = omega arith in
          let q : ℕ = 2 ^ (bits - 32) in
          let way : ℕ = distance bits a x in
          let e : way + a % q ≡ near * q + x % q = way-parts bits a x near many ha hx (near-many bits a x many) some in
          let least : near ≤ way / q + 1 = parts-least q near way (x % q) (a % q) (pow_pos (bits - 32)) (mod-lt a (pow_pos (bits - 32))) e in
          omega (arith, leading-many bits way many, least)
    ]
