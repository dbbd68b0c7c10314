-- After the last window, the audits that are left end the trace.
use Rattle.std.proofs.Common.{rules, subst, sym}
use Rattle.des_machine.specs.Simulable.{AreSound}
use Rattle.des_machine.proofs.Ends.{end_fails, run_ends}
use Rattle.des_parts.proofs.EngineCourse.{audits_fit, states_sound}
use Rattle.des_parts.proofs.Endings.{at_end}
use Rattle.des_parts.proofs.engine.WindowEngine.finish.Goals as goal

pub put_audits-requires-clause-states : goal.put_audits-requires-clause-states
put_audits-requires-clause-states g c =
    let k = c.args.machine.now in
    let text = g.S.Scribe.text k in
    let m = g.M.Machine.model k in
    let counted = g.S.Scribe.HasCounted k in
    let sim = g.met.M.Machine.simulable k c.recall.ensures in
    let e = c.args.self.now in
    subst (λ ss. AreSound m (g.M.Machine.Sound k) ss) (sym c.as_slice.ensures.value)
    (states_sound text m counted sim c.requires.at.0 _ e c.requires.at.1)

pub put_audits-requires-clause-room : goal.put_audits-requires-clause-room
put_audits-requires-clause-room g c =
    let k = c.args.machine.now in
    let text = g.S.Scribe.text k in
    let m = g.M.Machine.model k in
    let counted = g.S.Scribe.HasCounted k in
    let sim = g.met.M.Machine.simulable k c.recall.ensures in
    let e = c.args.self.now in
    audits_fit text m counted sim c.requires.at.0 _ e c.requires.at.1 g.S.Scribe.size (g.met.S.Scribe.sized k)

pub returns-in_err-put_audits-clause-run : goal.returns-in_err-put_audits-clause-run
returns-in_err-put_audits-clause-run g c = λ old at.
    let k = c.args.machine.now in
    let text = g.S.Scribe.text k in
    let m = g.M.Machine.model k in
    let counted = g.S.Scribe.HasCounted k in
    let sim = g.met.M.Machine.simulable k c.recall.ensures in
    let e = c.args.self.now in
    end_fails m sim e.world.states.items e.world.count at.world.states_are text
    (at_end text m counted old _ e at c.requires.ended) _ c.as_slice.ensures.value _ c.duration.ensures (g.S.Scribe.IsReport k) _ _
    c.in_err-put_audits.field-0.0 (search (rules, c.from_residual.ensures)) c.in_err-put_audits.ensures.only c.put_audits.ensures.front

pub returns-clause-run : goal.returns-clause-run
returns-clause-run g c = λ old at.
    let k = c.args.machine.now in
    let text = g.S.Scribe.text k in
    let m = g.M.Machine.model k in
    let counted = g.S.Scribe.HasCounted k in
    let sim = g.met.M.Machine.simulable k c.recall.ensures in
    let e = c.args.self.now in
    run_ends m sim e.world.states.items e.world.count at.world.states_are text
    (at_end text m counted old _ e at c.requires.ended) _ c.as_slice.ensures.value _ c.duration.ensures (g.S.Scribe.IsReport k)
    counted _ e.journal.scribe c.put_audits.new.self.scribe _ c.in_ok-put_audits.ensures.adds at.counted (c.report.ensures _)
