use Rattle.std.proofs.Common.{◌≡◌, ◌<◌, ℕ, List, ap, arith, inr, get_or, length, sym, subst}
use Rattle.std.specs.List.{Contains}
use Rattle.des_event.proofs.Members.{contains_at}
use Rattle.des_team.specs.Mail.{lists_of}
use Rattle.des_team.proofs.MailLists.{are_delivered, delivering_first, delivering_next, named_set, none_left}
use Rattle.des_team.proofs.mail.deliver_lists.Goals as goal

pub loop-part-init : goal.loop-part-init
loop-part-init g c = record {
  named = c.requires.named;
  delivering = delivering_first c.args.receivers.now.items (lists_of c.args.lists.now.items) c.args.parcels.now.items;
}

pub returns-in_err-give-clause-named : goal.returns-in_err-give-clause-named
returns-in_err-give-clause-named g c =
    let rs = c.args.receivers.now.items in
    let k = c.loop-part.part-index in
    let lt : k < length rs = omega (arith, c.loop-part-test.true, ap length c.deref-part-items.ensures.value) in
    let at : get_or rs k 0 ≡ get_or c.deref-part-items.result.now k 0 = ap (λ (l : List ℕ). get_or l k 0) (sym c.deref-part-items.ensures.value) in
    named_set c.loop-part.lists.items rs rs _ c.give.new.list c.loop-part.invariant.named (λ p n. n) c.loop-part.invariant.named.below
    (inr (subst (Contains rs) at (contains_at rs k 0 lt)))

pub loop-part-preserved : goal.loop-part-preserved
loop-part-preserved g c =
    let rs = c.args.receivers.now.items in
    let k = c.loop-part.part-index in
    let lt : k < length rs = omega (arith, c.loop-part-test.true, ap length c.deref-part-items.ensures.value) in
    let at : get_or rs k 0 ≡ get_or c.deref-part-items.result.now k 0 = ap (λ (l : List ℕ). get_or l k 0) (sym c.deref-part-items.ensures.value) in
    record {
      named = named_set c.loop-part.lists.items rs rs _ c.give.new.list c.loop-part.invariant.named (λ p n. n) c.loop-part.invariant.named.below
          (inr (subst (Contains rs) at (contains_at rs k 0 lt)));
      delivering = delivering_next k rs c.args.lists.now.items c.loop-part.lists.items c.args.parcels.now.items c.loop-part.parcels.items c.requires.long
          c.loop-part.invariant.delivering c.loop-part.invariant.named _ lt at c.index_mut.result.now c.give.new.place c.index_mut-in-loop-part.result.now
          c.give.new.list c.index_mut.ensures.value c.index_mut-in-loop-part.ensures.value c.in_ok-give.ensures.given c.in_ok-give.ensures.none_left;
    }

pub returns-clause-none_left : goal.returns-clause-none_left
returns-clause-none_left g c = none_left c.loop-part.part-index c.args.receivers.now.items c.args.lists.now.items c.loop-part.lists.items
    c.args.parcels.now.items c.loop-part.parcels.items c.requires.long c.requires.named
    (omega (arith, c.loop-part-test.false, ap length c.deref-part-items.ensures.value)) c.loop-part.invariant.delivering

pub returns-clause-delivered : goal.returns-clause-delivered
returns-clause-delivered g c = are_delivered c.loop-part.part-index c.args.receivers.now.items c.args.lists.now.items c.loop-part.lists.items
    c.args.parcels.now.items c.loop-part.parcels.items c.requires.long c.requires.named
    (omega (arith, c.loop-part-test.false, ap length c.deref-part-items.ensures.value)) c.loop-part.invariant.delivering
