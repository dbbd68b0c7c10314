-- The start is the run after no event.
use Rattle.std.proofs.Common.{◌∙◌, refl}
use Rattle.des_serial.proofs.Course.{start_at}
use Rattle.des_serial.proofs.engine.SerialEngine.start.Goals as goal

pub returns-clause-at : goal.returns-clause-at
returns-clause-at g c = λ now.
    let k = c.args.machine.now in
    start_at (g.S.Scribe.text k) (g.M.Machine.model k) (g.S.Scribe.HasCounted k) (g.met.M.Machine.simulable k c.recall.ensures) now _
    c.in_ok-states.ensures c.in_ok-pending.ensures.same c.in_ok-pending.ensures.ordered
    (c.new-clock.ensures ∙ c.in_ok-audit_times.ensures) c.start-scribe.ensures refl c.new.ensures.items
