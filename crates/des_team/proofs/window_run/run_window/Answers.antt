use Rattle.std.proofs.Common.{◌∙◌, ap, inr, subst}
use Rattle.des_team.specs.Chronicles.{chronicle}
use Rattle.des_team.specs.declared.team.Team.{Team}
use Rattle.des_team.specs.Faults.{IsGravestOf}
use Rattle.des_team.proofs.WindowFaults.{gravest_is, memory_or_many, too_many_from}
use Rattle.des_team.proofs.window_run.run_window.Goals as goal

pub returns-in-Some-clause-fault : goal.returns-in-Some-clause-fault
returns-in-Some-clause-fault g c = inr (inr (subst (λ fs. IsGravestOf fs c.in-Some.fault) c.as_slice.ensures.value c.in-Some.ensures.gravest))

pub returns-in-Some-clause-over : goal.returns-in-Some-clause-over
returns-in-Some-clause-over g c is =
    let ch = (chronicle (g.M.Machine.model c.args.course.now.machine.now) (g.S.Scribe.text c.args.course.now.machine.now)
    (g.S.Scribe.HasCounted c.args.course.now.machine.now)) in
    too_many_from ch c.in-Some.fault (gravest_is ch c.args.course.now.layout.now _ _ c.finish_parts.new.results.items c.in-Some.fault
    c.in_ok-finish_parts.ensures.results.each (subst (λ fs. IsGravestOf fs c.in-Some.fault) c.as_slice.ensures.value c.in-Some.ensures.gravest)) cc

pub returns-in-Some-clause-only : goal.returns-in-Some-clause-only
returns-in-Some-clause-only g c =
    let ch = (chronicle (g.M.Machine.model c.args.course.now.machine.now) (g.S.Scribe.text c.args.course.now.machine.now)
    (g.S.Scribe.HasCounted c.args.course.now.machine.now)) in
    inr (memory_or_many ch c.in-Some.fault (gravest_is ch c.args.course.now.layout.now _ _ c.finish_parts.new.results.items c.in-Some.fault
    c.in_ok-finish_parts.ensures.results.each (subst (λ fs. IsGravestOf fs c.in-Some.fault) c.as_slice.ensures.value c.in-Some.ensures.gravest)))

pub returns-in_err-finish_parts-clause-can_send : goal.returns-in_err-finish_parts-clause-can_send
returns-in_err-finish_parts-clause-can_send g c = c.in_err-finish_parts.ensures.can_send

pub returns-in_err-finish_parts-clause-others : goal.returns-in_err-finish_parts-clause-others
returns-in_err-finish_parts-clause-others g c = c.in_err-finish_parts.ensures.others
    ∙ ap (λ (t : Team _ _ _ _ _). record t { parcels = c.finish_parts.new.team.parcels }) c.in_ok-send_others.ensures.others

pub returns-in-Some-clause-can_send : goal.returns-in-Some-clause-can_send
returns-in-Some-clause-can_send g c = c.in_ok-finish_parts.ensures.can_send

pub returns-in-Some-clause-others : goal.returns-in-Some-clause-others
returns-in-Some-clause-others g c = c.in_ok-finish_parts.ensures.others
    ∙ ap (λ (t : Team _ _ _ _ _). record t { parcels = c.finish_parts.new.team.parcels }) c.in_ok-send_others.ensures.others

pub returns-in-None-clause-can_send : goal.returns-in-None-clause-can_send
returns-in-None-clause-can_send g c = c.in_ok-finish_parts.ensures.can_send

pub returns-in-None-clause-others : goal.returns-in-None-clause-others
returns-in-None-clause-others g c = c.in_ok-finish_parts.ensures.others
    ∙ ap (λ (t : Team _ _ _ _ _). record t { parcels = c.finish_parts.new.team.parcels }) c.in_ok-send_others.ensures.others
