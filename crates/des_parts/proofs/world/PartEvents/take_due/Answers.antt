use Rattle.std.proofs.Common.{arith}
use Rattle.des_parts.proofs.Deliveries.{late_all, late_none}
use Rattle.std.proofs.lemmas.Grind.{common_steps}
use Rattle.des_parts.proofs.world.PartEvents.take_due.Goals as goal

pub returns-then-time-horizon-clause-late : goal.returns-then-time-horizon-clause-late
returns-then-time-horizon-clause-late g c = late_all c.args.horizon c.in-Some.time c.loop-time.self.later c.in-Some.ensures
    (omega (arith, c.if-time-horizon.true)) c.recall_order.ensures

pub returns-clause-late : goal.returns-clause-late
returns-clause-late g c = late_none c.args.horizon c.loop-time.self.later c.in_default.ensures

pub loop-time-preserved-in-Continue-1 : goal.loop-time-preserved-in-Continue-1
loop-time-preserved-in-Continue-1 g c = grind (arith, common_steps)
