use Rattle.std.proofs.Common.{arith}
use Rattle.des_parts.proofs.world.next_opening.Goals as goal

pub returns-then-time-duration : goal.returns-then-time-duration
returns-then-time-duration g c = λ p e x l k.
    let first = c.in-Some.ensures.least p e x l k in
    omega (arith, first, c.if-time-duration.true, c.duration.ensures)

pub returns-in_default : goal.returns-in_default
returns-in_default g c = λ p e x l k. absurd (c.in_default.ensures p e x l k)

pub horizon_from-requires : goal.horizon_from-requires
horizon_from-requires g c = record {
  clock = c.requires c.in-Some.time c.in-Some.ensures (omega (arith, c.if-time-duration.false, c.duration.ensures));
}
