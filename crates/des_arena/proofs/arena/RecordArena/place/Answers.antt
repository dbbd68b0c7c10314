use Rattle.std.proofs.Common.{◌≡◌, ◌≢◌, ◌+◌, ◌*◌, ◌/◌, ◌<◌, List, [], ◌∷◌, ◌++◌, length, set, length-set, get_or, sym, ap, ◌∙◌, subst, arith, rules}
use Rattle.des_arena.specs.Arena.{Arena, arena}
use Rattle.des_arena.specs.Packed.{IsPacked, joined}
use Rattle.des_arena.proofs.Packing.{get_any, packed_fits, length-joined}
use Rattle.des_arena.proofs.Arenas.{placed, room_is}
use Rattle.des_arena.proofs.arena.RecordArena.place.Goals as goal

pub push-requires : goal.push-requires
push-requires g c =
    let n = c.self.inside.len in let cs = c.self.inside.chunks.items in
    let room : n ≢ c.args.self.now.room = λ e. c.if-len-room.false (e ∙ sym c.room.ensures) in
    let done = placed c.self.inside c.args.self.now c.self.invariant c.self.view_is room c.args.value in
    let inside : n / 256 < length cs = omega (arith, c.self.invariant.fits, room_is c.self.inside c.args.self.now c.self.invariant c.self.view_is, room) in
    let same = get_any cs (n / 256) [] c.index_mut-chunk.result.now inside ∙ sym c.index_mut-chunk.ensures.value in
    let long = ap length same in
    omega (arith, done.has_place, long)

pub invariant_of-self : goal.invariant_of-self
invariant_of-self g c =
    let n = c.self.inside.len in let cs = c.self.inside.chunks.items in let x = c.args.value in
    let room : n ≢ c.args.self.now.room = λ e. c.if-len-room.false (e ∙ sym c.room.ensures) in
    let done = placed c.self.inside c.args.self.now c.self.invariant c.self.view_is room x in
    let inside : n / 256 < length cs = omega (arith, c.self.invariant.fits, room_is c.self.inside c.args.self.now c.self.invariant c.self.view_is, room) in
    let same = get_any cs (n / 256) [] c.index_mut-chunk.result.now inside ∙ sym c.index_mut-chunk.ensures.value in
    let chunk : get_or cs (n / 256) [] ++ x ∷ [] ≡ c.push.new.self = ap (λ l. l ++ x ∷ []) same ∙ sym c.push.ensures in
    let cs' : List (List g.row.T.Denot) = set cs (n / 256) c.push.new.self in
    let packed : IsPacked cs' (n + 1) = subst (λ (l : List g.row.T.Denot). IsPacked (set cs (n / 256) l) (n + 1)) chunk done.packed in
    let long : length cs' ≡ length cs = length-set cs (n / 256) c.push.new.self in
    record {
      packed = packed;
      counted = sym (length-joined cs' (n + 1) packed);
      fits = packed_fits cs' (n + 1) packed;
      small = omega (arith, long, c.self.invariant.small);
    }

pub returns-clause-ok : goal.returns-clause-ok
returns-clause-ok g c =
    let n = c.self.inside.len in let cs = c.self.inside.chunks.items in let x = c.args.value in
    let room : n ≢ c.args.self.now.room = λ e. c.if-len-room.false (e ∙ sym c.room.ensures) in
    let done = placed c.self.inside c.args.self.now c.self.invariant c.self.view_is room x in
    let inside : n / 256 < length cs = omega (arith, c.self.invariant.fits, room_is c.self.inside c.args.self.now c.self.invariant c.self.view_is, room) in
    let same = get_any cs (n / 256) [] c.index_mut-chunk.result.now inside ∙ sym c.index_mut-chunk.ensures.value in
    let chunk : c.push.new.self ≡ get_or cs (n / 256) [] ++ x ∷ [] = c.push.ensures ∙ ap (λ l. l ++ x ∷ []) (sym same) in
    let items : joined (set cs (n / 256) c.push.new.self) ≡ c.args.self.now.items ++ x ∷ [] =
    ap (λ (l : List g.row.T.Denot). joined (set cs (n / 256) l)) chunk ∙ done.items ∙ ap (λ (v : Arena g.row.T.Denot). v.items ++ x ∷ []) c.self.view_is in
    let rooms : 256 * length (set cs (n / 256) c.push.new.self) ≡ c.args.self.now.room =
    ap (λ k. 256 * k) (length-set cs (n / 256) c.push.new.self) ∙ room_is c.self.inside c.args.self.now c.self.invariant c.self.view_is in
    λ i. arena (items i) (rooms i)

pub returns-clause-ticket : goal.returns-clause-ticket
returns-clause-ticket g c = search rules
