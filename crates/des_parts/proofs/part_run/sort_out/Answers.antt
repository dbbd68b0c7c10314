use Rattle.std.proofs.Common.{◌≡◌, ◌∷◌, ◌++◌, [], List, length, ap, sym, ◌∙◌, arith, append_assoc, append-nil, inl, ⊎_elim}
use Rattle.std.specs.Prelude.{nat_le}
use Rattle.std.specs.List.{list_all}
use Rattle.std.specs.Vec.Iter.{into_iter_items}
use Rattle.des_event.specs.declared.event.Event.{Event}
use Rattle.des_event.proofs.KeyLists.{from_on_all}
use Rattle.des_queue.specs.EventKey.{event_key}
use Rattle.des_parts.proofs.Sorting.{all_later, empty, none_early, sorted_in, sorted_new, sorted_out}
use Rattle.des_parts.proofs.part_run.sort_out.Goals as goal

pub returns-then-are_from-clause-mail : goal.returns-then-are_from-clause-mail
returns-then-are_from-clause-mail g c =
    let later = all_later c.args.horizon c.args.made.items (ap (λ (l : List (Event _)). list_all
    (λ (x : Event _). nat_le c.args.horizon x.key.time) l) (sym c.as_slice.ensures.value) ∙ sym c.are_from.ensures ∙ c.if-are_from.true) in
    c.in_ok-append.ensures.items ∙ ap (λ l. c.args.mail.now.items ++ l) (sym (from_on_all event_key c.args.horizon c.args.made.items later))

pub returns-then-are_from-clause-queue : goal.returns-then-are_from-clause-queue
returns-then-are_from-clause-queue g c = λ x.
    let later = all_later c.args.horizon c.args.made.items (ap (λ (l : List (Event _)). list_all
    (λ (x : Event _). nat_le c.args.horizon x.key.time) l) (sym c.as_slice.ensures.value) ∙ sym c.are_from.ensures ∙ c.if-are_from.true) in
    (λ k. inl k, λ k. ⊎_elim (λ h. h) (λ h. absurd (none_early c.args.horizon c.args.made.items later x h.0 h.1)) k)

pub push-requires-clause-new_key : goal.push-requires-clause-new_key
push-requires-clause-new_key g c =
    sorted_new c.args.horizon c.args.queue.now.events c.loop-event.queue.events c.loop-event.yielded (into_iter_items c.loop-event.event-iterator)
    c.args.mail.now.items c.loop-event.mail.items
    c.in-Some.event (into_iter_items c.next.new.self) c.loop-event.invariant.sorted c.in-Some.ensures.steps.0

pub loop-event-preserved-then-event-horizon : goal.loop-event-preserved-then-event-horizon
loop-event-preserved-then-event-horizon g c =
    let steps = c.in-Some.ensures.steps.0 in
    let more = ap length steps in
    let ordered = rw c.in_default.ensures.ok at c.recall_order-then-event-horizon.ensures in
    rw c.in_default.ensures.ok (record {
      can_next = tt;
      is_finite = tt;
      whole = append_assoc c.loop-event.yielded (c.in-Some.event ∷ []) (into_iter_items c.next.new.self)
          ∙ ap (λ l. c.loop-event.yielded ++ l) (sym steps) ∙ c.loop-event.invariant.whole;
      sorted = sorted_in c.args.horizon c.args.queue.now.events c.loop-event.queue.events c.loop-event.yielded
          (into_iter_items c.loop-event.event-iterator) c.args.mail.now.items c.loop-event.mail.items
          c.in-Some.event (into_iter_items c.next.new.self) c.loop-event.invariant.sorted steps c.if-event-horizon.true ordered;
      ordered = ordered;
      few = omega (arith, more, c.loop-event.invariant.few);
      pushes = omega (arith, more, c.loop-event.invariant.pushes);
    })

pub loop-event-preserved : goal.loop-event-preserved
loop-event-preserved g c =
    let steps = c.in-Some.ensures.steps.0 in
    let more = ap length steps in
    rw c.in_ok-push.ensures.items (record {
      can_next = tt;
      is_finite = tt;
      whole = append_assoc c.loop-event.yielded (c.in-Some.event ∷ []) (into_iter_items c.next.new.self)
          ∙ ap (λ l. c.loop-event.yielded ++ l) (sym steps) ∙ c.loop-event.invariant.whole;
      sorted = sorted_out c.args.horizon c.args.queue.now.events c.loop-event.queue.events c.loop-event.yielded
          (into_iter_items c.loop-event.event-iterator) c.args.mail.now.items c.loop-event.mail.items
          c.in-Some.event (into_iter_items c.next.new.self) c.loop-event.invariant.sorted steps (omega (arith, c.if-event-horizon.false));
      ordered = c.loop-event.invariant.ordered;
      few = omega (arith, more, c.loop-event.invariant.few);
      pushes = omega (arith, more, c.loop-event.invariant.pushes);
    })

pub returns-clause-queue : goal.returns-clause-queue
returns-clause-queue g c =
    let none : into_iter_items c.loop-event.event-iterator ≡ [] = empty (into_iter_items c.loop-event.event-iterator)
    (omega (arith, c.in-None.ensures.steps.0, c.loop-event.event-iterator.rest.ok.0)) in
    let all : c.loop-event.yielded ≡ c.args.made.items = sym (append-nil c.loop-event.yielded) ∙ ap (λ l. c.loop-event.yielded ++ l) (sym none)
    ∙ c.loop-event.invariant.whole in
    rw all at c.loop-event.invariant.sorted.same
