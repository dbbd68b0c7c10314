-- The square root of a number, rounded down, and Newton's method.
use Rattle.std.proofs.Common.{◌≡◌, refl, ℕ, zero, suc, ◌+◌, ◌-◌, ◌*◌, ◌/◌, ◌<◌, ◌≤◌, Bool, true, false, nat_le, if◌then◌else◌, arith}
use Rattle.std.proofs.lemmas.Bool.Decides.{nat_tests}
use Rattle.std.proofs.Math.Nat.{mul-le-mul, lt-mul-div-succ, div-mul-le_self}
use native.Mathlib.Decide.{dec_lt, dec_le}
use Rattle.chord_scenario.specs.Distances.{root, IsRoot}

root_step : (n r : ℕ) → IsRoot n r → (b : Bool) → nat_le ((r + 1) * (r + 1)) (suc n) ≡ b → IsRoot (suc n) (if b then r + 1 else r)
root_step n r is true reached =
    record { square = grind (arith, nat_tests); next_square = omega (arith, is.next_square) }
root_step n r is false not_reached =
    record { square = omega (arith, is.square); next_square = grind (arith, nat_tests) }

-- the definition is a root
pub root_is : (n : ℕ) → IsRoot n (root n)
unfolding root
root_is zero = record { square = omega arith; next_square = omega arith }
root_is (suc n) = root_step n (root n) (root_is n) (nat_le ((root n + 1) * (root n + 1)) (suc n)) refl

-- a number has one root
not_above : (n a b : ℕ) → IsRoot n a → IsRoot n b → a < b → ⊥
not_above n a b ia ib less =
    let more : (a + 1) * (a + 1) ≤ b * b = mul-le-mul (omega arith) (omega arith) in
    omega (arith, more, ia.next_square, ib.square)

pub root_one : (n a : ℕ) → IsRoot n a → a ≡ root n
root_one n a is =
    elim (dec_lt a (root n)) [
      | yes less ↦ absurd (not_above n a (root n) is (root_is n) less)
      | no not_less ↦
          elim (dec_lt (root n) a) [
            | yes more ↦ absurd (not_above n (root n) a (root_is n) is more)
            | no not_more ↦ omega arith
          ]
    ]

-- four times a product is at most the square of the sum
mean : (a b : ℕ) → 4 * (a * b) ≤ (a + b) * (a + b)
mean a b =
    elim (dec_le a b) [
      | yes less ↦ let is : b ≡ a + (b - a) = omega arith in from_difference a b (b - a) is
      | no not_less ↦ let is : a ≡ b + (a - b) = omega arith in omega (arith, from_difference b a (a - b) is)
    ]
  where
    from_difference : (x y e : ℕ) → y ≡ x + e → 4 * (x * y) ≤ (x + y) * (x + y)
    from_difference x y e is = rw is (omega arith)

-- the next number of Newton's method is not below the root
pub newton_above : (n x : ℕ) → 0 < x → n < ((x + n / x) / 2 + 1) * ((x + n / x) / 2 + 1)
newton_above n x some =
    let q = n / x in
    let z = (x + q) / 2 + 1 in
    let below : n < x * (q + 1) = lt-mul-div-succ n some in
    let twice : x + (q + 1) ≤ 2 * z = omega arith in
    let squares : (x + (q + 1)) * (x + (q + 1)) ≤ (2 * z) * (2 * z) = mul-le-mul twice twice in
    let product = mean x (q + 1) in
    omega (arith, below, squares, product)

-- and below a number whose square is above
pub newton_below : (n x : ℕ) → n < x * x → (x + n / x) / 2 < x
newton_below n x above =
    elim (dec_lt (n / x) x) [
      | yes less ↦ omega arith
      | no not_less ↦
          let more : x * x ≤ n / x * x = mul-le-mul (omega arith) (omega arith) in
          absurd (omega (arith, above, more, div-mul-le_self n x))
    ]

-- a distance is at most the sum of the distances along the axes
pub start_above : (x y : ℕ) → x * x + y * y < (x + y + 1) * (x + y + 1)
start_above x y = omega arith

-- squares of numbers below a power of ten are small
pub square_below : (x most : ℕ) → x ≤ most → x * x ≤ most * most
square_below x most h = mul-le-mul h h

pub root_below : (n : ℕ) → n ≤ 500000000000000000 → root n ≤ 800000000
root_below n h =
    elim (dec_le (root n) 800000000) [
      | yes less ↦ less
      | no not_less ↦
          absurd (omega (arith, square_below 800000000 (root n) (omega arith), (root_is n).square))
    ]
