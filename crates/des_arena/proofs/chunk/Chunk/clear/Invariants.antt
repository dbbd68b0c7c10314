use Rattle.std.proofs.Common.{length}
use Rattle.des_arena.proofs.chunk.Chunk.clear.Given as goal

abbrev pub decreases-loop-self : goal.decreases-loop-self
decreases-loop-self g l = length l.self
