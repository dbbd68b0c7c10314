-- A raw chunk crosses threads if its records do and its allocator frees from any thread.
use Rattle.std.proofs.Common.{◌*◌, ◌-◌, length}
use base.Shift.{Keyless}
use mir.Syntax.{Ty}
use denote.Array.{Array}
use denote.Param.Send.{IsSend, Frees, AllSend, array_send, owning_send, struct_send, sendable}
use denote.RattleType.{RattleType}
use denote.RawPtr.{Ptr, block_ptr, null_ptr, room_for, ◌+ₚ◌}
use denote.Struct.Owning.{shape, fields, to}
use denote.Struct.Struct.{exits_of}
use Rattle.core.specs.Allocator.{array_of}
use Rattle.core.specs.declared.alloc.Allocator.{Ghosts}
use Rattle.std.specs.Mem.{type_size}
use Rattle.std_alloc.proofs.SendSync.{lies, quiet}
use Rattle.des_arena.specs.contracts.raw_chunk.RawChunk.{the_row, the_type}

-- room names no owner
room_crosses : (τ : Ty) (p : Ptr) → Keyless (room_for τ p)
room_crosses τ (block_ptr b o) = tt
room_crosses τ null_ptr = tt

pub send : (R A : RattleType) (g : Ghosts A.Denot) → IsSend R → IsSend A → Frees g g.dealloc_token → IsSend (the_row R A g)
send R A g s _ f =
    let B = the_type R A g in let crosses : AllSend (fields B) = (search sendable, (search sendable, tt)) in
    owning_send B crosses (λ b. let n = length b.items in (
      tt,
      (
        lies (Array R n) (array_send R n s) b.start b.items,
        (room_crosses (array_of R (b.places - n)) (b.start +ₚ n * type_size R), f.frees b.alloc (array_of R b.places) b.start),
      ),
    ))
    (λ k. quiet (to B) (exits_of k (fields B)) ((struct_send (shape B) crosses).leaving k))
