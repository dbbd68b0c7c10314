use Rattle.std.proofs.Common.{◌∙◌, refl}
use Rattle.des_parts.specs.declared.world.World.{World}
use Rattle.des_parts.proofs.Standing.{start_stands}
use Rattle.des_parts.proofs.world.World.start.Goals as goal

pub fill_parts-requires-clause-stand : goal.fill_parts-requires-clause-stand
fill_parts-requires-clause-stand g c =
    let k = c.args.machine.now in (
      0,
      c.in_ok-states.states.items,
      start_stands (g.M.Machine.model k) (g.met.M.Machine.simulable k c.recall.ensures) c.in_ok-states.states.items c.new-clock.result
          c.in_ok-events.events.items c.in_ok-states.ensures (c.new-clock.ensures ∙ c.in_ok-audit_times.ensures) c.in_ok-events.ensures,
    )

pub returns-clause-world : goal.returns-clause-world
returns-clause-world g c =
    let k = c.args.machine.now in
    let world : World _ _ = record {
      count = 0;
      division = c.in_ok-try_clone.field-0;
      states = c.in_ok-states.states;
      parts = c.fill_parts.new.parts;
      clock = c.new-clock.result;
      opening = c.in_ok-opening.opening;
    } in
    c.in_ok-opening.ensures world
    (start_stands (g.M.Machine.model k) (g.met.M.Machine.simulable k c.recall.ensures) c.in_ok-states.states.items c.new-clock.result
    c.in_ok-events.events.items c.in_ok-states.ensures (c.new-clock.ensures ∙ c.in_ok-audit_times.ensures) c.in_ok-events.ensures)
    c.in_ok-try_clone.ensures refl refl refl

pub fill_parts-requires-clause-divides : goal.fill_parts-requires-clause-divides
fill_parts-requires-clause-divides g c = c.in_ok-expect_division.ensures.divides

pub fill_parts-requires-clause-long : goal.fill_parts-requires-clause-long
fill_parts-requires-clause-long g c = c.in_ok-parts.ensures.long ∙ c.parts.ensures

pub fill_parts-requires-clause-none : goal.fill_parts-requires-clause-none
fill_parts-requires-clause-none g c = c.in_ok-parts.ensures.none

pub returns-clause-count : goal.returns-clause-count
returns-clause-count g c = refl

pub returns-clause-division : goal.returns-clause-division
returns-clause-division g c = c.in_ok-try_clone.ensures
