use Rattle.std.proofs.Common.{Option, Vec, refl, subst, sym, []}
use Rattle.std.specs.Global.{Global}
use Rattle.des_window.specs.declared.opening.Opening.{Opening}
use Rattle.des_parts.specs.declared.world.PartEvents.{PartEvents}
use Rattle.des_parts.specs.Delivery.{HasOpened}
use Rattle.des_parts.proofs.NextWorld.{divided_ahead, events_deliver, events_targets, world_divided}
use Rattle.des_parts.proofs.Standing.{stand_sorted}
use Rattle.des_parts.proofs.world.fill_parts.Goals as goal

pub deliver-requires-clause-targets : goal.deliver-requires-clause-targets
deliver-requires-clause-targets g c =
    let k = c.args.machine.now in
    let m = g.M.Machine.model k in
    let sorted = c.sort_unstable_by_key.new.self.items in
    let stand = stand_sorted m c.requires.stand.0 c.requires.stand.1 c.args.clock.now c.args.events.items sorted
    c.sort_unstable_by_key.ensures.permutation c.requires.stand.2 in
    events_targets m (g.met.M.Machine.simulable k c.recall.ensures) c.args.division.now c.requires.divides c.requires.stand.0 c.requires.stand.1
    c.args.clock.now sorted stand c.args.parts.now.items c.requires.long c.requires.none

pub deliver-requires-clause-each : goal.deliver-requires-clause-each
deliver-requires-clause-each g c =
    let k = c.args.machine.now in
    let m = g.M.Machine.model k in
    let sorted = c.sort_unstable_by_key.new.self.items in
    let stand = stand_sorted m c.requires.stand.0 c.requires.stand.1 c.args.clock.now c.args.events.items sorted
    c.sort_unstable_by_key.ensures.permutation c.requires.stand.2 in
    events_deliver m (g.met.M.Machine.simulable k c.recall.ensures) c.args.division.now c.requires.divides c.requires.stand.0 c.requires.stand.1
    c.args.clock.now sorted stand c.args.parts.now.items c.requires.long c.requires.none

pub open_window-requires : goal.open_window-requires
open_window-requires g c =
    let k = c.args.machine.now in
    let m = g.M.Machine.model k in
    let sorted = c.sort_unstable_by_key.new.self.items in
    let stand = stand_sorted m c.requires.stand.0 c.requires.stand.1 c.args.clock.now c.args.events.items sorted
    c.sort_unstable_by_key.ensures.permutation c.requires.stand.2 in
    divided_ahead m (g.met.M.Machine.simulable k c.recall.ensures) c.args.division.now c.requires.divides c.requires.stand.0 c.requires.stand.1
    c.args.clock.now sorted stand c.args.parts.now.items c.requires.long c.requires.none c.deliver.new.parts.items c.in_ok-deliver.ensures

pub returns : goal.returns
returns g c = λ world stand division_is parts_are clock_is opening_is.
    let k = c.args.machine.now in
    let m = g.M.Machine.model k in
    let e : PartEvents _ = record { due = c.args.events; later = [] } in
    let sorted = c.sort_unstable_by_key.new.self.items in
    let still = stand_sorted m world.count world.states.items c.args.clock.now c.args.events.items sorted
    c.sort_unstable_by_key.ensures.permutation stand in
    let opened : HasOpened m c.deliver.new.parts.items world.parts.items world.opening =
    subst (λ (p : Vec (PartEvents _) Global). HasOpened m c.deliver.new.parts.items p.items world.opening) (sym parts_are)
    (subst (λ (o : Option Opening). HasOpened m c.deliver.new.parts.items c.open_window.new.parts.items o) (sym opening_is)
    c.in_ok-open_window.ensures) in
    world_divided m (g.met.M.Machine.simulable k c.recall.ensures) c.args.division.now c.requires.divides world.count world.states.items
    c.args.clock.now sorted still c.args.parts.now.items c.requires.long c.requires.none c.deliver.new.parts.items c.in_ok-deliver.ensures e world
    refl refl division_is clock_is opened
