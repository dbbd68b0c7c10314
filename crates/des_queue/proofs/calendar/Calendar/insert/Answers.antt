use Rattle.std.proofs.Common.{◌∙◌, ap, subst, sym}
use Rattle.des_event.specs.KeyOrder.{IsNewKey, put_in_order}
use Rattle.des_queue.specs.EventKey.{event_key}
use Rattle.des_queue.proofs.Calendars.{same_orderly}
use Rattle.des_queue.proofs.calendar.Calendar.insert.Goals as goal

pub put-requires : goal.put-requires
put-requires g c =
    let q = c.self.inside in let made = c.in-Some.ensures in
    let before = same_orderly q.due c.list_for.new.due q.days c.list_for.new.days c.self.invariant.orderly made.due made.same made.days in record {
      orderly = before.0;
      takes = made.takes;
      new = subst (IsNewKey event_key c.args.event.key) (sym (before.1 ∙ c.self.view_is)) c.requires;
    }

pub invariant_of-self : goal.invariant_of-self
invariant_of-self g c =
    let q = c.self.inside in let made = c.in_default.ensures in record {
      orderly = (same_orderly q.due c.list_for.new.due q.days c.list_for.new.days c.self.invariant.orderly made.due made.same made.days).0;
      whole = λ none. made.same.places ∙ c.self.invariant.whole (sym made.due ∙ none);
    }

pub returns-clause-ok : goal.returns-clause-ok
returns-clause-ok g c =
    let q = c.self.inside in let made = c.in-Some.ensures in
    let before = same_orderly q.due c.list_for.new.due q.days c.list_for.new.days c.self.invariant.orderly made.due made.same made.days in
    c.put.ensures.taken ∙ ap (put_in_order event_key c.args.event) (before.1 ∙ c.self.view_is)
