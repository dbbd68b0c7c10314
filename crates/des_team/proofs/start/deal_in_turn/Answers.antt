use Rattle.std.proofs.Common.{◌<◌, ◌∙◌, ◌∷◌, ◌++◌, [], List, Option, ℕ, append_assoc, append-nil, ap, arith, length, set, get_or, subst, sym}
use Rattle.std.specs.Vec.Iter.{into_iter_items}
use Rattle.des_event.specs.declared.event.Event.{Event}
use Rattle.des_model.specs.Windows.{part_of}
use Rattle.des_queue.proofs.Inserting.{empty}
use Rattle.des_team.specs.Owned.{LeastTimeIs}
use Rattle.des_team.specs.Starts.{HaveEvents}
use Rattle.des_team.proofs.Starts.{events_one, next_has, next_new, sooner_one}
use Rattle.des_team.proofs.start.deal_in_turn.Goals as goal

pub part_of-part-requires : goal.part_of-part-requires
part_of-part-requires g c = next_has (λ (x : Event _). x.target < length c.args.layout.now.division.of_node) c.loop-event.yielded
    (into_iter_items c.loop-event.event-iterator) c.args.events.items c.in-Some.event (into_iter_items c.next.new.self) c.requires.nodes
    c.loop-event.invariant.whole c.in-Some.ensures.steps.0

pub insert-requires : goal.insert-requires
insert-requires g c =
    let d = c.args.layout.now.division in
    let event = c.in-Some.event in
    let rest = into_iter_items c.loop-event.event-iterator in
    let next = into_iter_items c.next.new.self in
    let target : event.target < length d.of_node = next_has (λ (x : Event _). x.target < length d.of_node) c.loop-event.yielded rest
    c.args.events.items event next c.requires.nodes c.loop-event.invariant.whole c.in-Some.ensures.steps.0 in
    let inside : part_of d event.target < length c.args.parts.now.items = omega (arith, c.requires.below event.target 0 target, c.requires.parts) in
    let read = c.index_mut.ensures.value ∙ ap (λ q. get_or c.loop-event.parts.items q c.index_mut.result.now) c.part_of-part.ensures in
    next_new d c.loop-event.yielded rest c.args.parts.now.items c.loop-event.parts.items c.loop-event.invariant.dealt event next
    c.in-Some.ensures.steps.0 inside c.index_mut.result.now read

pub loop-event-preserved : goal.loop-event-preserved
loop-event-preserved g c =
    let d = c.args.layout.now.division in
    let event = c.in-Some.event in
    let rest = into_iter_items c.loop-event.event-iterator in
    let next = into_iter_items c.next.new.self in
    let target : event.target < length d.of_node = next_has (λ (x : Event _). x.target < length d.of_node) c.loop-event.yielded rest
    c.args.events.items event next c.requires.nodes c.loop-event.invariant.whole c.in-Some.ensures.steps.0 in
    let inside : part_of d event.target < length c.args.parts.now.items = omega (arith, c.requires.below event.target 0 target, c.requires.parts) in
    let read = c.index_mut.ensures.value ∙ ap (λ q. get_or c.loop-event.parts.items q c.index_mut.result.now) c.part_of-part.ensures in
    record {
      can_next = tt;
      is_finite = tt;
      whole = append_assoc c.loop-event.yielded (event ∷ []) next
          ∙ ap (λ l. c.loop-event.yielded ++ l) (sym c.in-Some.ensures.steps.0) ∙ c.loop-event.invariant.whole;
      dealt = subst (λ q. HaveEvents d (c.loop-event.yielded ++ event ∷ []) next c.args.parts.now.items
          (set c.loop-event.parts.items q (record c.index_mut.result.now { pending = c.insert.new.self }))) (sym c.part_of-part.ensures)
          (events_one d c.loop-event.yielded rest c.args.parts.now.items c.loop-event.parts.items c.loop-event.invariant.dealt event next
          c.in-Some.ensures.steps.0 inside c.index_mut.result.now read c.insert.new.self c.in_default.ensures.ok);
      least = subst (λ (o : Option ℕ). LeastTimeIs (c.loop-event.yielded ++ event ∷ []) o) (sym c.sooner-first.ensures)
          (sooner_one c.loop-event.yielded event c.loop-event.first c.loop-event.invariant.least);
    }

pub returns : goal.returns
returns g c =
    let d = c.args.layout.now.division in
    let none = empty (into_iter_items c.loop-event.event-iterator) (omega (arith, c.in-None.ensures.steps.0, c.loop-event.event-iterator.rest.ok.0)) in
    let all = sym (append-nil c.loop-event.yielded) ∙ ap (λ l. c.loop-event.yielded ++ l) (sym none) ∙ c.loop-event.invariant.whole in
    record {
      dealt = subst (λ (l : List (Event _)). HaveEvents d c.args.events.items l c.args.parts.now.items c.loop-event.parts.items) none
          (subst (λ (l : List (Event _)). HaveEvents d l (into_iter_items c.loop-event.event-iterator) c.args.parts.now.items c.loop-event.parts.items) all
          c.loop-event.invariant.dealt);
      first = subst (λ (l : List (Event _)). LeastTimeIs l c.loop-event.first) all c.loop-event.invariant.least;
    }

pub index_mut-requires : goal.index_mut-requires
index_mut-requires g c =
    let d = c.args.layout.now.division in
    let event = c.in-Some.event in
    let target : event.target < length d.of_node = next_has (λ (x : Event _). x.target < length d.of_node) c.loop-event.yielded
    (into_iter_items c.loop-event.event-iterator) c.args.events.items event (into_iter_items c.next.new.self) c.requires.nodes
    c.loop-event.invariant.whole c.in-Some.ensures.steps.0 in
    omega (
      arith,
      c.requires.below event.target 0 target,
      c.requires.parts,
      c.part_of-part.ensures,
      c.loop-event.invariant.dealt.long,
      c.loop-event.parts.ok.0,
    )
