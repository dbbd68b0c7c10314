-- The start is the run after no event.
use Rattle.std.proofs.Common.{◌∙◌, ap, length, sym}
use Rattle.des_model.specs.Windows.{Division}
use Rattle.des_parts.proofs.Endings.{start_at}
use Rattle.des_parts.proofs.engine.WindowEngine.start.Goals as goal

pub returns-clause-at : goal.returns-clause-at
returns-clause-at g c = λ now.
    let k = c.args.machine.now in
    start_at (g.S.Scribe.text k) (g.M.Machine.model k) (g.S.Scribe.HasCounted k) now _
    c.in_ok-world.ensures.world c.in_ok-world.ensures.count (c.new-clock.ensures ∙ c.in_ok-audit_times.ensures) c.start-scribe.ensures

pub returns-clause-divides : goal.returns-clause-divides
returns-clause-divides g c = ap (λ (d : Division). length d.of_node) (sym c.in_ok-world.ensures.division) ∙ c.in_ok-world.ensures.world.divides.whole

pub returns-clause-count : goal.returns-clause-count
returns-clause-count g c = c.in_ok-world.ensures.count

pub returns-clause-division : goal.returns-clause-division
returns-clause-division g c = c.in_ok-world.ensures.division
