-- A drawn number is below its bound.
use Rattle.std.proofs.Common.{ℕ, ◌+◌, ◌*◌, ◌^◌, ◌<◌, arith, subst}
use Rattle.std.proofs.Math.Nat.{div-lt_iff_lt-mul, mod-lt, mul_comm, mul-lt-mul_of_pos_right}
use Rattle.std.proofs.lemmas.Nat.{pow_pos}
use Rattle.rand_chacha.specs.Block.{block_word}
use Rattle.des_stream.specs.Draws.{first_number, number_at, scaled, second_number}
use Rattle.des_stream.specs.Word.{word}

-- a word has 32 bits
pub word_small : (seed node place : ℕ) → word seed node place < 2 ^ 32
unfolding word block_word
word_small seed node place = mod-lt _ (pow_pos 32)

scaled_below : (high low bound : ℕ) → high < 2 ^ 32 → low < 2 ^ 32 → 0 < bound → scaled high low bound < bound
scaled_below high low bound top rest some =
    let both : high * 2 ^ 32 + low < 2 ^ 64 = omega (arith, top, rest) in
    let less : (high * 2 ^ 32 + low) * bound < bound * 2 ^ 64 =
    subst (λ (n : ℕ). (high * 2 ^ 32 + low) * bound < n) (mul_comm (2 ^ 64) bound) (mul-lt-mul_of_pos_right both some) in
    (div-lt_iff_lt-mul (pow_pos 64)).1 less

number_below : (seed stream place bound : ℕ) → 0 < bound → number_at seed stream place bound < bound
number_below seed stream place bound some =
    scaled_below (word seed stream place) (word seed stream (place + 1)) bound (word_small seed stream place) (word_small seed stream (place + 1)) some

pub first_below : (seed stream group bound : ℕ) → 0 < bound → first_number seed stream group bound < bound
first_below seed stream group bound some = number_below seed stream (4 * group) bound some

pub second_below : (seed stream group bound : ℕ) → 0 < bound → second_number seed stream group bound < bound
second_below seed stream group bound some = number_below seed stream (4 * group + 2) bound some
