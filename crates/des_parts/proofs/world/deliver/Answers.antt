use Rattle.std.proofs.Common.{arith, sym, ap, subst, ◌∙◌, ◌≡◌, ◌<◌, length, refl, [], ◌∷◌, ◌++◌, append_assoc, append-nil, get_or}
use Rattle.std.specs.Vec.Iter.{into_iter_items}
use Rattle.des_event.specs.KeyOrder.{IsNewKey}
use Rattle.des_queue.specs.EventKey.{event_key}
use Rattle.des_parts.specs.declared.world.PartEvents.{PartEvents}
use Rattle.des_parts.specs.Delivery.{HasDelivered}
use Rattle.des_parts.proofs.Deliveries.{delivered_one, got_new, part_inside}
use Rattle.des_parts.proofs.Sorting.{empty}
use Rattle.des_parts.proofs.world.deliver.Goals as goal

pub insert-requires : goal.insert-requires
insert-requires g c =
    let inside : c.part_of-part.result < length c.args.parts.now.items = part_inside c.args.division.now c.args.parts.now.items c.args.mail.items
    c.loop-event.yielded (into_iter_items c.loop-event.event-iterator) c.in-Some.event (into_iter_items c.next.new.self)
    c.requires.parts c.requires.division c.requires.targets c.loop-event.invariant.whole c.in-Some.ensures.steps.0 c.part_of-part.result
    c.part_of-part.ensures in
    subst (λ (z : PartEvents _). IsNewKey event_key c.in-Some.event.key z.later) (sym c.index_mut.ensures.value)
    (got_new c.args.division.now c.part_of-part.result (get_or c.args.parts.now.items c.part_of-part.result c.index_mut.result.now)
    (get_or c.loop-event.parts.items c.part_of-part.result c.index_mut.result.now)
    c.loop-event.yielded (into_iter_items c.loop-event.event-iterator) c.in-Some.event (into_iter_items c.next.new.self)
    (c.loop-event.invariant.delivered.each c.part_of-part.result c.index_mut.result.now inside) c.in-Some.ensures.steps.0)

pub loop-event-preserved : goal.loop-event-preserved
loop-event-preserved g c =
    let inside : c.part_of-part.result < length c.args.parts.now.items = part_inside c.args.division.now c.args.parts.now.items c.args.mail.items
    c.loop-event.yielded (into_iter_items c.loop-event.event-iterator) c.in-Some.event (into_iter_items c.next.new.self)
    c.requires.parts c.requires.division c.requires.targets c.loop-event.invariant.whole c.in-Some.ensures.steps.0 c.part_of-part.result
    c.part_of-part.ensures in
    let after : PartEvents _ = record { due = c.index_mut.result.now.due; later = c.insert.new.self } in
    record {
      can_next = tt;
      is_finite = tt;
      whole = append_assoc c.loop-event.yielded (c.in-Some.event ∷ []) (into_iter_items c.next.new.self)
          ∙ ap (λ l. c.loop-event.yielded ++ l) (sym c.in-Some.ensures.steps.0) ∙ c.loop-event.invariant.whole;
      delivered = delivered_one c.args.division.now c.args.parts.now.items c.loop-event.parts.items c.loop-event.yielded
          (into_iter_items c.loop-event.event-iterator) c.in-Some.event (into_iter_items c.next.new.self)
          c.loop-event.invariant.delivered c.in-Some.ensures.steps.0 c.part_of-part.result c.part_of-part.ensures inside c.index_mut.result.now after
          c.index_mut.ensures.value refl c.in_default.ensures.ok;
    }

pub returns : goal.returns
returns g c =
    let none : into_iter_items c.loop-event.event-iterator ≡ [] = empty (into_iter_items c.loop-event.event-iterator)
    (omega (arith, c.in-None.ensures.steps.0, c.loop-event.event-iterator.rest.ok.0)) in
    let all : c.loop-event.yielded ≡ c.args.mail.items = sym (append-nil c.loop-event.yielded) ∙ ap (λ l. c.loop-event.yielded ++ l) (sym none)
    ∙ c.loop-event.invariant.whole in
    subst (λ l. HasDelivered c.args.division.now c.args.parts.now.items c.loop-event.parts.items l []) all
    (subst (λ l. HasDelivered c.args.division.now c.args.parts.now.items c.loop-event.parts.items c.loop-event.yielded l) none c.loop-event.invariant.delivered)
