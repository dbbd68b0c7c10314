-- A borrow of a raw chunk is a `&` to its records. The room and the right to free it wait until it ends. Assumes `Logic`.
use Rattle.std.proofs.Common.{[], ◌++◌, length, sym, subst}
use base.Fml.{Incl-trans, fsep, flt}
use contract.BorrowLft.{meet_⊑_left}
use denote.Array.{Array}
use denote.ArrayMemory.{Single}
use denote.Param.Laws.{Laws}
use denote.Param.Shared.{copy_shared}
use denote.RattleType.{RattleType}
use denote.RawPtr.{RawPtr, lies_at}
use base.Fraction.{full_share}
use denote.Shares.{Shares-less, Shares-Array}
use denote.Sharing.{said}
use denote.Struct.Field.{RawPtr-field}
use denote.Struct.Laws.{RawPtr-copy, field_copy}
use denote.Struct.Lending.{lent_at, Lends-first, Lends-lies, Lends-said, Lends-both, of_Lends}
use Prim.Native.Nat.{◌*◌, ◌^◌, ◌-◌}
use Rattle.std.specs.Mem.{type_size}
use Rattle.core.specs.Allocator.{array_of, block_with_items}
use denote.RawPtr.{room_for, ◌+ₚ◌}
use Rattle.core.specs.contracts.marker.PhantomData as marker
use Rattle.core.specs.declared.alloc.Allocator.{Ghosts}
use Rattle.std_alloc.proofs.SharedLaws.{lent_shr_laws}
use Rattle.des_arena.specs.contracts.raw_chunk.RawChunk as RawChunk
use Rattle.des_arena.proofs.raw_chunk.RawChunk.TheLaw.Statement.{statement}

pub shares : (R A : RattleType) (g : Ghosts A.Denot) (L : Laws R) (K : Laws A) → statement R A g L K
shares R A g L K =
    of_Lends (RawChunk.struct R A g) (RawChunk.the_codes R.Denot A.Denot R.coded A.coded (marker.the_row RawPtr).coded) (RawChunk.the_heap R A g)
    (RawChunk.the_lent R A g)
    (λ b p. lent_shr_laws R L.shr_laws b.start (length b.items) b.places b.items)
    (copy_shared RawPtr-field RawPtr-copy, (copy_shared (marker.the_field RawPtr) (field_copy (marker.the_type RawPtr) tt), tt))
    (λ M 𝓤 𝓛 b p.
    let l = (RawChunk.the_row R A g).lives in let n = length b.items in let t = g.dealloc_token b.alloc in
    let bound = flt (b.places * type_size R) (2 ^ 63) in let lent = lent_at (Array R n) b.start b.items in
    let each = Shares-less 𝓛 R R.lives l (Incl-trans (meet_⊑_left (R.lives ++ (A.lives ++ [])) _) (meet_⊑_left R.lives (A.lives ++ []))) (L.shares 𝓛) in
    let records = Lends-lies 𝓛 (Array R n) l b.start b.items (Shares-Array 𝓛 R (subst Single (sym L.one) tt) n l each b.items) in
    let rest = fsep (room_for (array_of R (b.places - n)) (b.start +ₚ n * type_size R)) (t (array_of R b.places) b.start) in
    Lends-both 𝓛 bound (block_with_items t R b.start n b.places b.items) (said bound) lent l (Lends-said 𝓛 bound tt l)
    (Lends-first 𝓛 (lies_at (Array R n) full_share b.start b.items) rest lent l records))
