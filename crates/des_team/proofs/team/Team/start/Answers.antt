use Rattle.std.proofs.Common.{◌∙◌, ◌<◌, List, [], length, arith, refl, subst, sym}
use Rattle.std.specs.List.{All}
use Rattle.des_event.specs.declared.event.Event.{Event}
use Rattle.des_model.specs.Windows.{Divides}
use Rattle.des_machine.specs.Times.{IsAscending}
use Rattle.des_team.specs.Chronicles.{chronicle}
use Rattle.des_team.specs.Owned.{AreApart, LeastTimeIs}
use Rattle.des_team.specs.Starts.{AreEmptyParts, HaveEvents}
use Rattle.des_team.proofs.Starts.{starts_inside, team_at_start}
use Rattle.des_team.proofs.team.Team.start.Goals as goal

-- The start is the run after no event.

pub deal_states-requires-clause-divides : goal.deal_states-requires-clause-divides
deal_states-requires-clause-divides g c = subst (λ n. Divides c.args.layout.now.division n) (sym c.in_ok-start_states.ensures.nodes_are) c.requires.divides

pub deal_states-requires-clause-few : goal.deal_states-requires-clause-few
deal_states-requires-clause-few g c = omega (arith, c.in_ok-start_states.ensures.nodes_are, c.requires.few)

pub deal_events-requires-clause-nodes : goal.deal_events-requires-clause-nodes
deal_events-requires-clause-nodes g c =
    subst (λ (es : List (Event _)). All (λ (x : Event _). x.target < length c.args.layout.now.division.of_node) es) (sym c.in_ok-start_events.ensures)
    (starts_inside (chronicle (g.M.Machine.model c.args.machine.now) (g.S.Scribe.text c.args.machine.now) (g.S.Scribe.HasCounted c.args.machine.now))
    (g.met.M.Machine.simulable c.args.machine.now c.recall.ensures) c.args.layout.now.division c.requires.divides)

pub deal_events-requires-clause-apart : goal.deal_events-requires-clause-apart
deal_events-requires-clause-apart g c = subst (λ (es : List (Event _)). AreApart es) (sym c.in_ok-start_events.ensures)
    (g.met.M.Machine.simulable c.args.machine.now c.recall.ensures).well_formed.starts_apart

pub new-clock-requires : goal.new-clock-requires
new-clock-requires g c = subst IsAscending (sym c.in_ok-audit_times.ensures) (g.met.M.Machine.simulable c.args.machine.now c.recall.ensures).ascending

pub returns-clause-at : goal.returns-clause-at
returns-clause-at g c = λ now.
    let k = c.args.machine.now in
    let ch = chronicle (g.M.Machine.model k) (g.S.Scribe.text k) (g.S.Scribe.HasCounted k) in
    let l = c.args.layout.now in
    let empty = c.in_ok-parts.parts.items in
    let stated = c.deal_states.new.parts.items in
    let parts = c.deal_events.new.parts.items in
    team_at_start ch (g.met.M.Machine.simulable k c.recall.ensures) l c.requires c.in_ok-start_states.field-0.items c.in_ok-start_states.ensures empty stated
    parts c.in_ok-parcels.parcels.items
    (subst (λ n. AreEmptyParts (g.S.Scribe.HasCounted k) n n empty) c.parts.ensures c.in_ok-parts.ensures)
    c.in_ok-deal_states.ensures
    (subst (λ (es : List (Event _)). HaveEvents l.division es [] stated parts) c.in_ok-start_events.ensures c.in_ok-next.ensures.dealt)
    c.in_ok-parcels.ensures
    c.in_ok-parcels.parcels c.in_ok-next.next (record { scribe = c.start.result; clock = c.new-clock.result }) c.new.result
    (record { time = 0; horizon = 0 }) now refl
    (subst (λ (es : List (Event _)). LeastTimeIs es c.in_ok-next.next) c.in_ok-start_events.ensures c.in_ok-next.ensures.first)
    (c.new-clock.ensures ∙ c.in_ok-audit_times.ensures)
    c.start.ensures
