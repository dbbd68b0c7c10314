use Rattle.std.proofs.Common.{◌≡◌, ℕ, ◌<◌, [], get_or}
use Rattle.des_arena.proofs.arena.clear_chunks.Given as goal

abbrev pub invariant-loop-chunk : goal.invariant-loop-chunk
invariant-loop-chunk g l = (k : ℕ) → k < l.chunk-index → get_or l.chunk-items k [] ≡ []
