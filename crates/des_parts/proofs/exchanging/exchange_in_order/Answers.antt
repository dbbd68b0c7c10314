use Rattle.std.proofs.Common.{◌+◌, ◌∙◌, ◌<◌, [], List, length, ap, sym, subst, refl, arith}
use Rattle.std.specs.List.{All, filter}
use Rattle.std.specs.Prelude.{nat_lt}
use Rattle.des_model.specs.Histories.{history, open_audits}
use Rattle.des_event.specs.declared.event.Event.{Event}
use Rattle.des_parts.specs.declared.world.PartEvents.{PartEvents}
use Rattle.des_parts.specs.declared.world.World.{World}
use Rattle.des_parts.specs.Delivery.{CanDeliver, HasDelivered}
use Rattle.des_parts.proofs.NextWorld.{exchange_delivers, exchange_names, exchange_targets, mid_ahead, world_next}
use Rattle.des_parts.proofs.EngineCourse.{same_opening}
use Rattle.des_parts.proofs.WindowOutput.{window_leaves_open}
use Rattle.des_parts.proofs.exchanging.exchange_in_order.Goals as goal

pub gather-requires : goal.gather-requires
gather-requires g c =
    let k = c.args.machine.now in
    exchange_names (g.M.Machine.model k) (g.met.M.Machine.simulable k c.recall.ensures) c.args.world.now c.requires.world c.requires.done.0 c.args.dones.items
    c.requires.done.1

pub deliver-requires-clause-targets : goal.deliver-requires-clause-targets
deliver-requires-clause-targets g c =
    let k = c.args.machine.now in
    subst (λ (l : List (Event _)). All (λ (x : Event _). x.target < length c.args.world.now.division.of_node) l) (sym c.in_ok-mail.ensures.mail)
    (exchange_targets (g.M.Machine.model k) (g.met.M.Machine.simulable k c.recall.ensures) c.args.world.now c.requires.world c.requires.done.0
    c.args.dones.items c.requires.done.1)

pub deliver-requires-clause-each : goal.deliver-requires-clause-each
deliver-requires-clause-each g c =
    let k = c.args.machine.now in
    subst (λ (l : List (Event _)). CanDeliver c.args.world.now.parts.items l) (sym c.in_ok-mail.ensures.mail)
    (exchange_delivers (g.M.Machine.model k)
    (g.met.M.Machine.simulable k c.recall.ensures) c.args.world.now c.requires.world c.requires.done.0 c.args.dones.items c.requires.done.1)

pub open_window-requires : goal.open_window-requires
open_window-requires g c =
    let k = c.args.machine.now in
    let m = g.M.Machine.model k in
    let sim = g.met.M.Machine.simulable k c.recall.ensures in
    let w = c.args.world.now in
    let a = c.requires.done.1 in
    let same = same_opening c.in-Some.opening w.opening a.time c.requires.done.0 a.opening c.in-Some.is in
    mid_ahead m sim w c.requires.world c.requires.done.0 c.args.dones.items a
    c.deliver.new.parts.items (subst (λ (l : List (Event _)). HasDelivered w.division w.parts.items
    c.deliver.new.parts.items l []) c.in_ok-mail.ensures.mail c.in_ok-deliver.ensures) c.pass_audits.new.clock
    (c.pass_audits.ensures ∙ ap (filter (λ t. nat_lt c.in-Some.opening.time t)) c.requires.world.clock_is
    ∙ ap (λ s. filter (λ t. nat_lt s t) (open_audits m (history m w.count))) (sym same)
    ∙ sym (window_leaves_open m sim w c.requires.world c.requires.done.0 c.args.dones.items a))

pub returns-clause-world : goal.returns-clause-world
returns-clause-world g c =
    let k = c.args.machine.now in
    let m = g.M.Machine.model k in
    let sim = g.met.M.Machine.simulable k c.recall.ensures in
    let w = c.args.world.now in
    let a = c.requires.done.1 in
    let same = same_opening c.in-Some.opening w.opening a.time c.requires.done.0 a.opening c.in-Some.is in
    let clock_is = c.pass_audits.ensures ∙ ap (filter (λ t. nat_lt c.in-Some.opening.time t)) c.requires.world.clock_is
    ∙ ap (λ s. filter (λ t. nat_lt s t) (open_audits m (history m w.count))) (sym same)
    ∙ sym (window_leaves_open m sim w c.requires.world c.requires.done.0 c.args.dones.items a) in
    let after : World _ _ = record {
      count = w.count + c.args.events;
      division = w.division;
      states = c.gather.new.states;
      parts = c.open_window.new.parts;
      clock = c.pass_audits.new.clock;
      opening = c.in_ok-world.field-0;
    } in
    let e : PartEvents _ = record { due = c.in_ok-mail.field-0.mail; later = [] } in
    world_next m sim w c.requires.world c.requires.done.0 c.args.dones.items a
    c.deliver.new.parts.items (subst (λ (l : List (Event _)). HasDelivered w.division w.parts.items
    c.deliver.new.parts.items l []) c.in_ok-mail.ensures.mail c.in_ok-deliver.ensures)
    e after (ap (λ n. w.count + n) c.requires.events) (omega (arith, c.requires.events, c.requires.within)) refl clock_is
    c.in_ok-mail.ensures.states c.in_ok-world.ensures
