use Rattle.std.proofs.Common.{arith, refl}
use Rattle.std.proofs.lemmas.Grind.{common_steps}
use Rattle.des_serial.proofs.Course.{over_limit}
use Rattle.des_serial.proofs.engine.SerialEngine.take_next.Goals as goal

pub returns-then-self-max_events-clause-over : goal.returns-then-self-max_events-clause-over
returns-then-self-max_events-clause-over g c = λ same old now at.
    let k = c.args.machine.now in
    over_limit (g.S.Scribe.text k) (g.M.Machine.model k) (g.S.Scribe.HasCounted k) (g.met.M.Machine.simulable k c.recall.ensures) old now c.args.self.now at
    c.args.self.now.pending c.in-Some.time refl c.in-Some.ensures c.recall_order.ensures
    (omega (arith, c.if-time-duration.false, c.duration.ensures)) (omega (arith, c.if-self-max_events.true, c.max_events.ensures))

pub returns-clause-next : goal.returns-clause-next
returns-clause-next g c = grind (arith, common_steps)
