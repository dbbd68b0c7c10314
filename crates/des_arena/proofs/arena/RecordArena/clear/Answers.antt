use Rattle.std.proofs.Common.{◌≡◌, ◌*◌, ◌∙◌, length, ap, arith}
use Rattle.des_arena.specs.Arena.{arena}
use Rattle.des_arena.proofs.Packing.{packed_none, joined_none}
use Rattle.des_arena.proofs.Arenas.{closes, room_is}
use Rattle.des_arena.proofs.arena.RecordArena.clear.Goals as goal

pub invariant_of-self : goal.invariant_of-self
invariant_of-self g c =
    let cs = c.clear_chunks.new.chunks.items in
    let long : length cs ≡ length c.self.inside.chunks.items = c.clear_chunks.ensures.len in
    closes _ (packed_none cs c.clear_chunks.ensures.cleared) (omega (arith, long, c.self.invariant.small))

pub returns : goal.returns
returns g c =
    let cs = c.clear_chunks.new.chunks.items in
    let long : length cs ≡ length c.self.inside.chunks.items = c.clear_chunks.ensures.len in
    let room = ap (λ k. 256 * k) long ∙ room_is c.self.inside c.args.self.now c.self.invariant c.self.view_is in
    λ i. arena (joined_none cs c.clear_chunks.ensures.cleared i) (room i)
