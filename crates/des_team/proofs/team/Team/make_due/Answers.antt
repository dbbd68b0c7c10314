use Rattle.std.proofs.Common.{arith, ◌∙◌, ◌++◌, List, ap, subst, sym}
use Rattle.std.specs.List.{flat_map}
use Rattle.des_model.specs.Histories.{history, state}
use Rattle.des_model.specs.Scribes.{due, audits_at}
use Rattle.des_machine.specs.Simulable.{AreSound, AreStates}
use Rattle.des_machine.proofs.Ends.{are_sound, are_states}
use Rattle.des_team.specs.Chronicles.{chronicle}
use Rattle.des_team.specs.Placed.{placed}
use Rattle.des_team.proofs.OpenWindows.{audits_fit, opened_at, states_after}
use Rattle.des_team.proofs.team.Team.make_due.Goals as goal

pub put_audits-made-requires-clause-states : goal.put_audits-made-requires-clause-states
put_audits-made-requires-clause-states g c =
    let k = c.args.course.now.machine.now in
    let ch = chronicle (g.M.Machine.model k) (g.S.Scribe.text k) (g.S.Scribe.HasCounted k) in
    let ok = g.met.M.Machine.simulable k c.recall.ensures in
    let l = c.args.course.now.layout.now in
    let t = c.args.self.now in
    subst (λ ss. AreSound ch.machine (g.M.Machine.Sound k) ss) (sym (ap (placed l) c.as_slice.ensures.value))
    (are_sound ch.machine ok (placed l t.parcels.items) t.count (states_after ch ok l _ _ t c.requires.at.2))

pub put_audits-made-requires-clause-room : goal.put_audits-made-requires-clause-room
put_audits-made-requires-clause-room g c =
    let k = c.args.course.now.machine.now in
    let t = c.args.self.now in
    omega (
      arith,
      audits_fit (chronicle (g.M.Machine.model k) (g.S.Scribe.text k) (g.S.Scribe.HasCounted k)) (g.met.M.Machine.simulable k c.recall.ensures)
          c.args.course.now.layout.now _ _ t c.requires.at.2,
      g.met.S.Scribe.sized k _ t.journal.scribe c.requires.at.2.audited.counted,
    )

pub returns-clause-at : goal.returns-clause-at
returns-clause-at g c = λ old now at.
    let ch = (chronicle (g.M.Machine.model c.args.course.now.machine.now) (g.S.Scribe.text c.args.course.now.machine.now)
    (g.S.Scribe.HasCounted c.args.course.now.machine.now)) in
    let ok = (g.met.M.Machine.simulable c.args.course.now.machine.now c.recall.ensures) in
    let l = c.args.course.now.layout.now in
    let t = c.args.self.now in
    let past = history ch.machine t.count in
    let are = subst (λ (ss : List _). AreStates ch.machine ss (state ch.machine past)) (sym (ap (placed l) c.as_slice.ensures.value))
    (are_states ch.machine ok (placed l t.parcels.items) t.count (states_after ch ok l old now t at)) in
    let adds = c.in_default.ensures.adds (state ch.machine past) are in
    let more = flat_map ch.text (audits_at ch.machine (state ch.machine past) (due t.window.time t.journal.clock)) in
    opened_at ch ok l old now t at t.window c.requires.window c.put_audits-made.new.self c.into_inner.result
    c.in_default.ensures.left
    (ap (λ v. v.items) c.into_inner.ensures ∙ adds.written
    ∙ ap (λ v. v.items ++ more) (c.new-writer.ensures.wrapped ∙ c.replace-text.ensures.value) ∙ ap (λ z. z ++ more) c.requires.none)
    adds.counted
