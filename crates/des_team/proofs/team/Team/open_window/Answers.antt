use Rattle.std.proofs.Common.{◌<◌, ◌∙◌, subst, sym}
use Rattle.std.specs.Prelude.{IfSome}
use Rattle.des_team.specs.Chronicles.{chronicle}
use Rattle.des_team.proofs.OpenWindows.{opened_without}
use Rattle.des_team.proofs.team.Team.open_window.Goals as goal

pub returns-in_default-clause-at : goal.returns-in_default-clause-at
returns-in_default-clause-at g c = λ old now at.
    opened_without (chronicle (g.M.Machine.model c.args.course.now.machine.now) (g.S.Scribe.text c.args.course.now.machine.now)
    (g.S.Scribe.HasCounted c.args.course.now.machine.now))
    (g.met.M.Machine.simulable c.args.course.now.machine.now c.recall.ensures) c.args.course.now.layout.now old now c.args.self.now at c.args.window
    c.requires.window c.clear.new.self c.clear.ensures.items
    (subst (λ o. IfSome o (λ first. c.args.window.time < first)) (sym c.in-Some.is ∙ c.first.ensures) c.if-time-window.false)

pub returns-in_default-2-clause-at : goal.returns-in_default-2-clause-at
returns-in_default-2-clause-at g c = λ old now at.
    opened_without (chronicle (g.M.Machine.model c.args.course.now.machine.now) (g.S.Scribe.text c.args.course.now.machine.now)
    (g.S.Scribe.HasCounted c.args.course.now.machine.now))
    (g.met.M.Machine.simulable c.args.course.now.machine.now c.recall.ensures) c.args.course.now.layout.now old now c.args.self.now at c.args.window
    c.requires.window c.clear.new.self c.clear.ensures.items
    (subst (λ o. IfSome o (λ first. c.args.window.time < first)) (sym c.in_default.is ∙ c.first.ensures) tt)
