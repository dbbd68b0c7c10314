use Rattle.std.proofs.Common.{◌∙◌, ◌<◌, ◌++◌, ◌∷◌, [], Err, Ok, Result, refl, ap, sym, subst, arith, length, reverse}
use Rattle.std.specs.Prelude.{IfOk, IsErrAnd}
use Rattle.des_event.specs.declared.event.Event.{Event}
use Rattle.des_model.specs.Windows.{part_of}
use Rattle.des_queue.proofs.Inserting.{empty}
use Rattle.des_team.specs.declared.part.OwnedPart.{OwnedPart}
use Rattle.des_team.specs.Running.{HasSent}
use Rattle.des_team.proofs.Sending.{all_are_sent, last_is_next, next_has, next_is_new, sending_from, sends_on, sent_away, sent_here}
use Rattle.des_team.proofs.part.OwnedPart.send.Goals as goal

-- of a result that is an error, what it says of values holds
no_value : {X E : Type 0} (r : Result X E) (Q : E → Type 0) (P : X → Type 0) → IsErrAnd r Q → IfOk r P
no_value (Ok x) Q P is = absurd is
no_value (Err e) Q P is = tt

pub loop-event-init : goal.loop-event-init
loop-event-init g c = record {
  sending = sending_from c.args.layout.now.division c.args.made.now.items c.reverse.new.self.items c.args.self.now c.recall_order.ensures
      c.reverse.ensures.items;
  others = refl;
}

pub part_of-to-requires : goal.part_of-to-requires
part_of-to-requires g c =
    let s = c.loop-event.invariant.sending in
    next_has (λ (x : Event _). x.target < length c.args.layout.now.division.of_node) c.args.made.now.items s.so_far
    (reverse c.loop-event.made.items) c.in-Some.event (reverse c.pop.new.self.items) c.requires.nodes s.whole
    (last_is_next c.loop-event.made.items c.pop.new.self.items c.in-Some.event c.in-Some.ensures.items)

pub insert-requires : goal.insert-requires
insert-requires g c =
    let s = c.loop-event.invariant.sending in
    next_is_new c.args.layout.now.division c.args.made.now.items s.so_far (reverse c.loop-event.made.items) c.args.self.now
    c.loop-event.self c.loop-event.soonest c.in-Some.event (reverse c.pop.new.self.items) c.requires.apart s.sent
    s.whole (last_is_next c.loop-event.made.items c.pop.new.self.items c.in-Some.event c.in-Some.ensures.items)

pub loop-event-preserved-then-to-self : goal.loop-event-preserved-then-to-self
loop-event-preserved-then-to-self g c =
    let s = c.loop-event.invariant.sending in
    let after : (OwnedPart _ _ _ _ _) = record c.loop-event.self { pending = c.insert.new.self } in
    record {
      sending = sends_on c.args.layout.now.division c.args.made.now.items c.loop-event.made.items c.pop.new.self.items c.in-Some.event
          c.args.self.now c.loop-event.self after c.loop-event.soonest c.loop-event.soonest s c.in-Some.ensures.items
          (sent_here c.args.layout.now.division s.so_far c.args.self.now c.loop-event.self c.loop-event.soonest s.sent
          c.in-Some.event
          (sym c.part_of-to.ensures ∙ c.if-to-self.true ∙ ap (λ (p : OwnedPart _ _ _ _ _). p.part) c.loop-event.invariant.others)
          after (ap (λ es. record c.loop-event.self { pending = es }) c.in_default-insert.ensures.ok) c.recall_order-then-to-self.ensures);
      others = ap (λ (p : OwnedPart _ _ _ _ _). record p { pending = c.insert.new.self; outbox = c.loop-event.self.outbox }) c.loop-event.invariant.others;
    }

pub push-requires : goal.push-requires
push-requires g c =
    let s = c.loop-event.invariant.sending in
    let part = next_has (λ (x : Event _). part_of c.args.layout.now.division x.target < length c.args.self.now.outbox) c.args.made.now.items
    s.so_far (reverse c.loop-event.made.items) c.in-Some.event (reverse c.pop.new.self.items) c.requires.parts s.whole
    (last_is_next c.loop-event.made.items c.pop.new.self.items c.in-Some.event c.in-Some.ensures.items) in
    omega (arith, part, c.part_of-to.ensures, s.sent.out_long)

pub loop-event-preserved : goal.loop-event-preserved
loop-event-preserved g c =
    let s = c.loop-event.invariant.sending in
    let part = next_has (λ (x : Event _). part_of c.args.layout.now.division x.target < length c.args.self.now.outbox) c.args.made.now.items
    s.so_far (reverse c.loop-event.made.items) c.in-Some.event (reverse c.pop.new.self.items) c.requires.parts s.whole
    (last_is_next c.loop-event.made.items c.pop.new.self.items c.in-Some.event c.in-Some.ensures.items) in
    let inside : c.part_of-to.result < length c.loop-event.self.outbox = omega (arith, part, c.part_of-to.ensures, s.sent.out_long) in
    let after : (OwnedPart _ _ _ _ _) = record c.loop-event.self { outbox = c.push.new.self } in
    record {
      sending = sends_on c.args.layout.now.division c.args.made.now.items c.loop-event.made.items c.pop.new.self.items c.in-Some.event
          c.args.self.now c.loop-event.self after c.loop-event.soonest c.sooner-soonest.result s c.in-Some.ensures.items
          (subst (λ o. HasSent c.args.layout.now.division (s.so_far ++ c.in-Some.event ∷ []) c.args.self.now after o) (sym c.sooner-soonest.ensures)
          (sent_away c.args.layout.now.division s.so_far c.args.self.now c.loop-event.self c.loop-event.soonest s.sent
          c.in-Some.event
          (λ q. c.if-to-self.false (c.part_of-to.ensures ∙ q ∙ sym (ap (λ (p : OwnedPart _ _ _ _ _). p.part) c.loop-event.invariant.others)))
          c.part_of-to.result after c.part_of-to.ensures inside refl c.in_ok-push.ensures));
      others = ap (λ (p : OwnedPart _ _ _ _ _). record p { pending = c.loop-event.self.pending; outbox = c.push.new.self }) c.loop-event.invariant.others;
    }

pub returns-clause-sent : goal.returns-clause-sent
returns-clause-sent g c =
    all_are_sent c.args.layout.now.division c.args.made.now.items c.loop-event.made.items c.args.self.now c.loop-event.self c.loop-event.soonest
    c.loop-event.invariant.sending (empty c.loop-event.made.items (omega (arith, c.in_default.ensures.cases.0, c.loop-event.made.ok.0)))

pub returns-in_err-push-clause-part : goal.returns-in_err-push-clause-part
returns-in_err-push-clause-part g c = ap (λ (p : OwnedPart _ _ _ _ _). p.part) c.loop-event.invariant.others

pub returns-in_err-push-clause-states : goal.returns-in_err-push-clause-states
returns-in_err-push-clause-states g c = ap (λ (p : OwnedPart _ _ _ _ _). p.states) c.loop-event.invariant.others

pub returns-in_err-push-clause-inbox : goal.returns-in_err-push-clause-inbox
returns-in_err-push-clause-inbox g c = ap (λ (p : OwnedPart _ _ _ _ _). p.inbox) c.loop-event.invariant.others

pub returns-in_err-push-clause-scribe : goal.returns-in_err-push-clause-scribe
returns-in_err-push-clause-scribe g c = ap (λ (p : OwnedPart _ _ _ _ _). p.scribe) c.loop-event.invariant.others

pub returns-in_err-push-clause-sent : goal.returns-in_err-push-clause-sent
returns-in_err-push-clause-sent g c = no_value c.from_residual.result _ _ c.from_residual.ensures.1

pub returns-in-Err-clause-part : goal.returns-in-Err-clause-part
returns-in-Err-clause-part g c = ap (λ (p : OwnedPart _ _ _ _ _). p.part) c.loop-event.invariant.others

pub returns-in-Err-clause-states : goal.returns-in-Err-clause-states
returns-in-Err-clause-states g c = ap (λ (p : OwnedPart _ _ _ _ _). p.states) c.loop-event.invariant.others

pub returns-in-Err-clause-inbox : goal.returns-in-Err-clause-inbox
returns-in-Err-clause-inbox g c = ap (λ (p : OwnedPart _ _ _ _ _). p.inbox) c.loop-event.invariant.others

pub returns-in-Err-clause-scribe : goal.returns-in-Err-clause-scribe
returns-in-Err-clause-scribe g c = ap (λ (p : OwnedPart _ _ _ _ _). p.scribe) c.loop-event.invariant.others

pub returns-clause-part : goal.returns-clause-part
returns-clause-part g c = ap (λ (p : OwnedPart _ _ _ _ _). p.part) c.loop-event.invariant.others

pub returns-clause-states : goal.returns-clause-states
returns-clause-states g c = ap (λ (p : OwnedPart _ _ _ _ _). p.states) c.loop-event.invariant.others

pub returns-clause-inbox : goal.returns-clause-inbox
returns-clause-inbox g c = ap (λ (p : OwnedPart _ _ _ _ _). p.inbox) c.loop-event.invariant.others

pub returns-clause-scribe : goal.returns-clause-scribe
returns-clause-scribe g c = ap (λ (p : OwnedPart _ _ _ _ _). p.scribe) c.loop-event.invariant.others
