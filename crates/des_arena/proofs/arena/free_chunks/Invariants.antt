use Rattle.std.proofs.Common.{◌≡◌, [], List}
use Rattle.std.specs.List.{All}
use Rattle.des_arena.proofs.arena.free_chunks.Given as goal

abbrev pub invariant-loop-chunk : goal.invariant-loop-chunk
invariant-loop-chunk g l = All (λ (c : List g.row.T.Denot). c ≡ []) l.chunks.items

abbrev pub decreases-loop-chunk : goal.decreases-loop-chunk
decreases-loop-chunk g l = goal.left-loop-chunk g l
