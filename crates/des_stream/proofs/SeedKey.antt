-- The key of a seed.
use Rattle.std.proofs.Common.{◌≡◌, ℕ, ◌<◌, ◌%◌, ◌/◌, ◌^◌, [], ◌∷◌, refl, arith}
use Rattle.rand_core.specs.Steps.{u32_at}
use Rattle.rand_chacha.specs.ChaCha.{key_of}
use Rattle.des_stream.specs.Word.{seed_bytes}

-- the low and the high half of the seed, and six zeros
pub key_of_seed : (seed : ℕ) → seed < 2 ^ 64
    → seed % 2 ^ 32 ∷ seed / 2 ^ 32 ∷ 0 ∷ 0 ∷ 0 ∷ 0 ∷ 0 ∷ 0 ∷ [] ≡ key_of (seed_bytes seed)
unfolding u32_at
key_of_seed seed below =
    let low : u32_at (seed_bytes seed) 0 ≡ seed % 2 ^ 32 = omega arith in
    let high : u32_at (seed_bytes seed) 1 ≡ seed / 2 ^ 32 = omega arith in
    rw (low, high) refl
