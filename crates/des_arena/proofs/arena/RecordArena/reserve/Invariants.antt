use Rattle.std.proofs.Common.{◌≡◌, ◌*◌, ◌≤◌, max}
use Rattle.des_arena.proofs.arena.RecordArena.reserve.Given as goal

abbrev pub invariant-loop : goal.invariant-loop
invariant-loop g l = (l.self.items ≡ l.fn.self.items) × (l.self.room ≡ 256 * l.counter) × (256 * l.counter ≤ max l.fn.self.room (256 * l.wanted))
