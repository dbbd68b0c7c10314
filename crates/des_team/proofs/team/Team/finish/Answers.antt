-- After the last event, the audits that are left end the trace.
use Rattle.std.proofs.Common.{rules, ap, arith, inl, refl, sym, subst}
use Rattle.des_event.specs.declared.error.RunError.TheVariants as run
use Rattle.des_machine.specs.Simulable.{AreSound}
use Rattle.des_machine.proofs.Ends.{are_sound, end_fails, last_added, pieces_fit}
use Rattle.des_team.specs.Chronicles.{chronicle}
use Rattle.des_team.proofs.OpenWindows.{audits_fit, states_after}
use Rattle.des_team.specs.Placed.{placed}
use Rattle.des_team.proofs.TeamEnds.{at_end, can_join, joined_report, team_ends}
use Rattle.des_team.proofs.team.Team.finish.Goals as goal

pub put_audits-requires-clause-states : goal.put_audits-requires-clause-states
put_audits-requires-clause-states g c =
    let k = c.args.course.now.machine.now in
    let ch = chronicle (g.M.Machine.model k) (g.S.Scribe.text k) (g.S.Scribe.HasCounted k) in
    let ok = g.met.M.Machine.simulable k c.recall.ensures in
    let l = c.args.course.now.layout.now in
    let t = c.args.self.now in
    let states = placed l t.parcels.items in
    subst (λ ss. AreSound ch.machine (g.M.Machine.Sound k) ss) (sym (ap (placed l) c.as_slice.ensures.value))
    (are_sound ch.machine ok states t.count (states_after ch ok l _ _ t c.requires.at.1))

pub put_audits-requires-clause-room : goal.put_audits-requires-clause-room
put_audits-requires-clause-room g c =
    let k = c.args.course.now.machine.now in
    let ch = chronicle (g.M.Machine.model k) (g.S.Scribe.text k) (g.S.Scribe.HasCounted k) in
    let t = c.args.self.now in
    omega (
      arith,
      audits_fit ch (g.met.M.Machine.simulable k c.recall.ensures) c.args.course.now.layout.now _ _ t c.requires.at.1,
      g.met.S.Scribe.sized k _ t.journal.scribe c.requires.at.1.audited.counted,
    )

pub returns-in_err-put_audits-clause-run : goal.returns-in_err-put_audits-clause-run
returns-in_err-put_audits-clause-run g c = λ old at.
    let k = c.args.course.now.machine.now in
    let ch = chronicle (g.M.Machine.model k) (g.S.Scribe.text k) (g.S.Scribe.HasCounted k) in
    let ok = g.met.M.Machine.simulable k c.recall.ensures in
    let l = c.args.course.now.layout.now in
    let t = c.args.self.now in
    let states = placed l t.parcels.items in
    let after = states_after ch ok l old _ t at in
    end_fails ch.machine ok states t.count after ch.text (at_end ch ok l old _ t at c.requires.ended) _ (ap (placed l) c.as_slice.ensures.value) _ c.duration.ensures
    (g.S.Scribe.IsReport k) _ _ c.in_err-put_audits.field-0.0 (search (rules, c.from_residual.ensures)) c.in_err-put_audits.ensures.only
    c.put_audits.ensures.front

pub join_all-requires : goal.join_all-requires
join_all-requires g c =
    let old = c.requires.at.0 in
    let at = c.requires.at.1 in
    let k = c.args.course.now.machine.now in
    let ch = chronicle (g.M.Machine.model k) (g.S.Scribe.text k) (g.S.Scribe.HasCounted k) in
    let ok = g.met.M.Machine.simulable k c.recall.ensures in
    let l = c.args.course.now.layout.now in
    let t = c.args.self.now in
    let states = placed l t.parcels.items in
    let after = states_after ch ok l old _ t at in
    let end = at_end ch ok l old _ t at c.requires.ended in
    let adds = last_added ch.machine ok states t.count after ch.text end _ (ap (placed l) c.as_slice.ensures.value) _ c.duration.ensures ch.HasCounted _ t.journal.scribe
    c.put_audits.new.self.scribe c.in_ok-put_audits.ensures.adds in
    record {
      room = can_join ch ok l old _ t at _
          c.put_audits.new.self.scribe adds.counted _ c.in_ok-scribes.ensures
          (pieces_fit ch.machine ok states t.count after ch.text end _ (ap (placed l) c.as_slice.ensures.value) _ c.duration.ensures);
    }

pub returns-in_err-scribes-clause-run : goal.returns-in_err-scribes-clause-run
returns-in_err-scribes-clause-run g c = λ old at.
    let k = c.args.course.now.machine.now in
    let ch = chronicle (g.M.Machine.model k) (g.S.Scribe.text k) (g.S.Scribe.HasCounted k) in
    let ok = g.met.M.Machine.simulable k c.recall.ensures in
    let l = c.args.course.now.layout.now in
    let t = c.args.self.now in
    let states = placed l t.parcels.items in
    let after = states_after ch ok l old _ t at in
    end_fails ch.machine ok states t.count after ch.text (at_end ch ok l old _ t at c.requires.ended) _ (ap (placed l) c.as_slice.ensures.value) _ c.duration.ensures
    (g.S.Scribe.IsReport k) _ _ run.Memory (search (rules, c.from_residual-in_err-scribes.ensures)) (inl refl) c.put_audits.ensures.front

pub returns-in_err-joined-clause-run : goal.returns-in_err-joined-clause-run
returns-in_err-joined-clause-run g c = λ old at.
    let k = c.args.course.now.machine.now in
    let ch = chronicle (g.M.Machine.model k) (g.S.Scribe.text k) (g.S.Scribe.HasCounted k) in
    let ok = g.met.M.Machine.simulable k c.recall.ensures in
    let l = c.args.course.now.layout.now in
    let t = c.args.self.now in
    let states = placed l t.parcels.items in
    let after = states_after ch ok l old _ t at in
    end_fails ch.machine ok states t.count after ch.text (at_end ch ok l old _ t at c.requires.ended) _ (ap (placed l) c.as_slice.ensures.value) _ c.duration.ensures
    (g.S.Scribe.IsReport k) _ _ run.Memory (search (rules, c.from_residual-in_err-joined.ensures)) (inl refl) c.put_audits.ensures.front

pub returns-clause-run : goal.returns-clause-run
returns-clause-run g c = λ old at.
    let k = c.args.course.now.machine.now in
    let ch = chronicle (g.M.Machine.model k) (g.S.Scribe.text k) (g.S.Scribe.HasCounted k) in
    let ok = g.met.M.Machine.simulable k c.recall.ensures in
    let l = c.args.course.now.layout.now in
    let t = c.args.self.now in
    let states = placed l t.parcels.items in
    let after = states_after ch ok l old _ t at in
    let end = at_end ch ok l old _ t at c.requires.ended in
    let adds = last_added ch.machine ok states t.count after ch.text end _ (ap (placed l) c.as_slice.ensures.value) _ c.duration.ensures ch.HasCounted _ t.journal.scribe
    c.put_audits.new.self.scribe c.in_ok-put_audits.ensures.adds in
    team_ends ch ok l old _ t at states after c.requires.ended _ (ap (placed l) c.as_slice.ensures.value) _ c.duration.ensures _ c.put_audits.new.self.scribe
    c.in_ok-put_audits.ensures.adds (g.S.Scribe.IsReport k) c.report.result
    (joined_report ch ok l old _ t at _
    c.put_audits.new.self.scribe adds.counted _ c.in_ok-scribes.ensures (g.S.Scribe.IsReport k) (g.met.S.Scribe.unordered k) c.in_ok-joined.joined
    c.report.result c.in_ok-joined.ensures.pieces c.report.ensures)
