-- A `&` to a raw chunk is a `&` to each record.
use Rattle.std.proofs.Common.{length}
use denote.Array.{Array}
use denote.Param.Send.{IsSync, array_sync, struct_sync, sendable}
use denote.RattleType.{RattleType}
use denote.Struct.Owning.{shape, to}
use Rattle.core.specs.declared.alloc.Allocator.{Ghosts}
use Rattle.std_alloc.proofs.SendSync.{seen}
use Rattle.des_arena.specs.contracts.raw_chunk.RawChunk.{the_row, the_type}

pub sync : (R A : RattleType) (g : Ghosts A.Denot) → IsSync R → IsSync (the_row R A g)
sync R A g y = record {
  shared = λ b at o κ. let n = length b.items in let B = the_type R A g in
      ((struct_sync (shape B) (search sendable, (search sendable, tt))).shared (to B b) at o κ, (tt, seen (Array R n) (array_sync R n y) b.start b.items κ));
}
