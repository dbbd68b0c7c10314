-- Draws that depend on no earlier ones: each has a group of four words of its own.
use Rattle.std.specs.Prelude.{ℕ, ◌+◌, ◌*◌, ◌/◌, ◌^◌}
use Rattle.des_stream.specs.Word.{word}

-- the number of the stream that a node has for one purpose alone
abbrev pub own_stream : (node purpose : ℕ) → ℕ
own_stream node purpose = node + purpose * 2 ^ 32

-- a number below the bound, made of two words
abbrev pub scaled : (high low bound : ℕ) → ℕ
scaled high low bound = (high * 2 ^ 32 + low) * bound / 2 ^ 64

-- a number below the bound, made of the word at a place of a stream and the next one
abbrev pub number_at : (seed stream place bound : ℕ) → ℕ
number_at seed stream place bound = scaled (word seed stream place) (word seed stream (place + 1)) bound

-- a number below the bound, made of the first and the second word of a group; 0 if the bound is 0
abbrev pub first_number : (seed stream group bound : ℕ) → ℕ
first_number seed stream group bound = number_at seed stream (4 * group) bound

-- a number below the bound, made of the third and the fourth word of a group; 0 if the bound is 0
abbrev pub second_number : (seed stream group bound : ℕ) → ℕ
second_number seed stream group bound = number_at seed stream (4 * group + 2) bound
