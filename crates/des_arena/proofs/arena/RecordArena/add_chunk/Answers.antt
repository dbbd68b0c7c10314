use Rattle.std.proofs.Common.{◌≡◌, ◌+◌, ◌∙◌, List, [], ◌∷◌, ◌++◌, length, length-append, ap, sym, subst, arith}
use Rattle.des_arena.specs.Packed.{IsPacked}
use Rattle.des_arena.proofs.Packing.{packed_more}
use Rattle.des_arena.proofs.Arenas.{closes, room_is}
use Rattle.des_arena.proofs.arena.RecordArena.add_chunk.Goals as goal

pub invariant_of-self-2 : goal.invariant_of-self-2
invariant_of-self-2 g c =
    let cs = c.self.inside.chunks.items in let n = c.self.inside.len in let one : List (List g.row.T.Denot) = [] ∷ [] in
    let more : c.push.new.self.items ≡ cs ++ one = c.in_default.ensures.items ∙ ap (λ (l : List g.row.T.Denot). cs ++ l ∷ []) c.in_ok-chunk.ensures in
    let long : length c.push.new.self.items ≡ length cs + 1 = ap length more ∙ length-append cs one in
    closes _ (subst (λ (l : List (List g.row.T.Denot)). IsPacked l n) (sym more) (packed_more cs n c.self.invariant.packed))
    (omega (arith, long, room_is c.self.inside c.args.self.now c.self.invariant c.self.view_is, c.requires))
