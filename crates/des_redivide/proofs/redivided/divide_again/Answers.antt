use Rattle.std.proofs.Common.{◌∙◌, List, Vec, ap, refl, sym, subst}
use Rattle.std.specs.Global.{Global}
use Rattle.std.specs.List.{flat_map}
use Rattle.des_event.specs.declared.event.Event.{Event}
use Rattle.des_parts.specs.declared.world.PartEvents.{PartEvents}
use Rattle.des_parts.specs.declared.world.World.{World}
use Rattle.des_parts.specs.Worlds.{StandAfter, events_of}
use Rattle.des_parts.proofs.Standing.{world_stands}
use Rattle.des_redivide.proofs.redivided.divide_again.Goals as goal

pub fill_parts-requires-clause-stand : goal.fill_parts-requires-clause-stand
fill_parts-requires-clause-stand g c =
    let k = c.args.machine.now in
    let m = g.M.Machine.model k in (
      c.args.world.now.count,
      c.args.world.now.states.items,
      subst (λ (events : List (Event _)). StandAfter m c.args.world.now.count c.args.world.now.states.items c.args.world.now.clock events)
          (sym (c.in_ok-events.ensures ∙ ap (λ (parts : Vec (PartEvents _) Global). flat_map events_of parts.items) c.replace-parts.ensures.value))
          (world_stands m (g.met.M.Machine.simulable k c.recall.ensures) c.args.world.now c.requires.world),
    )

pub returns-clause-world : goal.returns-clause-world
returns-clause-world g c =
    let k = c.args.machine.now in
    let m = g.M.Machine.model k in
    let after : World _ _ = record {
      count = c.args.world.now.count;
      division = c.in_ok-world-2.field-0;
      states = c.args.world.now.states;
      parts = c.fill_parts.new.parts;
      clock = c.args.world.now.clock;
      opening = c.in_ok-world.field-0;
    } in
    c.in_ok-world.ensures after
    (subst (λ (events : List (Event _)). StandAfter m c.args.world.now.count c.args.world.now.states.items c.args.world.now.clock events)
    (sym (c.in_ok-events.ensures ∙ ap (λ (parts : Vec (PartEvents _) Global). flat_map events_of parts.items) c.replace-parts.ensures.value))
    (world_stands m (g.met.M.Machine.simulable k c.recall.ensures) c.args.world.now c.requires.world)) c.in_ok-world-2.ensures refl refl refl

pub returns-clause-opening : goal.returns-clause-opening
returns-clause-opening g c = (returns-clause-world g c).opening_is ∙ sym c.requires.world.opening_is

pub fill_parts-requires-clause-long : goal.fill_parts-requires-clause-long
fill_parts-requires-clause-long g c = rw c.replace-parts.ensures.after (c.in_ok-empty_parts.ensures.long ∙ c.parts.ensures)

pub fill_parts-requires-clause-none : goal.fill_parts-requires-clause-none
fill_parts-requires-clause-none g c = rw c.replace-parts.ensures.after c.in_ok-empty_parts.ensures.none

pub returns-clause-count : goal.returns-clause-count
returns-clause-count g c = refl

pub returns-clause-states : goal.returns-clause-states
returns-clause-states g c = refl

pub returns-clause-division : goal.returns-clause-division
returns-clause-division g c = c.in_ok-world-2.ensures
