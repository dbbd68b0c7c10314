use Rattle.std.proofs.Common.{◌≡◌, ◌∙◌, ◌++◌, nat_lt, sym, ap, subst}
use Rattle.std.proofs.lemmas.List.Elements.{filter-append}
use Rattle.std.specs.List.Sorted.{IsPermutation}
use Rattle.des_event.specs.declared.event.Event.{Event}
use Rattle.des_event.specs.KeyOrder.{before}
use Rattle.des_queue.specs.Calendar.{AreDistinct}
use Rattle.des_queue.specs.EventKey.{event_key}
use Rattle.des_queue.proofs.Orders.{distinct_filter, sorted_before}
use Rattle.des_queue.proofs.Pendings.{Events}
use Rattle.des_queue.proofs.pending.Pending.up_to.Goals as goal

pub sort_up-requires : goal.sort_up-requires
sort_up-requires g c =
    let p = c.self.inside in let h = c.args.horizon in let all = p.calendar ++ p.rest in
    let both : c.in_ok-copies.copies.items ++ c.in_ok-others.others.items ≡ before event_key h all = (λ i. c.in_ok-copies.ensures i ++ c.in_ok-others.ensures i)
    ∙ sym (filter-append (λ (e : Event _). nat_lt e.key.time h) p.calendar p.rest) in
    subst (λ (l : Events _). AreDistinct l) (sym (c.in_ok-append.ensures.items ∙ both)) (distinct_filter (λ e. nat_lt e.key.time h) all c.self.invariant)

pub returns : goal.returns
returns g c =
    let p = c.self.inside in let h = c.args.horizon in let all = p.calendar ++ p.rest in let ys = c.sort_up.new.events.items in
    let both : c.in_ok-copies.copies.items ++ c.in_ok-others.others.items ≡ before event_key h all = (λ i. c.in_ok-copies.ensures i ++ c.in_ok-others.ensures i)
    ∙ sym (filter-append (λ (e : Event _). nat_lt e.key.time h) p.calendar p.rest) in
    sorted_before h all ys c.self.invariant
    (subst (λ (es : Events _). IsPermutation es ys) (c.in_ok-append.ensures.items ∙ both) c.sort_up.ensures.same) c.sort_up.ensures.up
    ∙ ap (before event_key h) c.self.view_is
