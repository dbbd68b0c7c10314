use Rattle.std.proofs.Common.{◌≡◌, ◌+◌, ◌*◌, ◌≤◌, max, ◌∙◌, length, ap, arith}
use Rattle.des_arena.specs.Arena.{room_for}
use Rattle.des_arena.proofs.Arenas.{grown, len_is, room_is}
use Rattle.des_arena.proofs.arena.RecordArena.reserve.Goals as goal

pub returns-clause-ok : goal.returns-clause-ok
returns-clause-ok g c =
    let len = len_is c.self.inside c.args.self.now c.self.invariant c.self.view_is in
    let room = room_is c.self.inside c.args.self.now c.self.invariant c.self.view_is in
    let low : c.args.self.now.room ≤ 256 * c.loop.counter = omega (arith, room, c.len-counter.ensures, c.loop.auto.counter) in
    let all : c.self.inside.len + c.args.additional ≡ length c.args.self.now.items + c.args.additional = ap (λ k. k + c.args.additional) len in
    let e = grown c.args.self.now.room c.div_ceil-wanted.result c.loop.counter (c.self.inside.len + c.args.additional) low c.loop-test.false
    c.loop.invariant.2 c.div_ceil-wanted.ensures in
    c.loop.invariant.1 ∙ e ∙ ap (λ k. max c.args.self.now.room (room_for k)) all
