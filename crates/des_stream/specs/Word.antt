-- The words of a node's stream.
use Rattle.std.specs.Prelude.{ℕ, ◌++◌, List, replicate}
use Rattle.std.specs.Int.{to_le_bytes, w64}
use Rattle.rand_chacha.specs.ChaCha.{word_at, key_of}

-- the 32 bytes of a seed: its 8 bytes, the lowest first, and 24 zeros
abbrev pub seed_bytes : (seed : ℕ) → List ℕ
seed_bytes seed = to_le_bytes w64 seed ++ replicate 24 0

-- the word at a place of a node's stream: of ChaCha8 under the seed, in the stream of the node's number
unfoldable pub word : (seed node place : ℕ) → ℕ
word seed node place = word_at 4 (key_of (seed_bytes seed)) node place
