use Rattle.std.proofs.Common.{◌≡◌, ◌∙◌, [], sym, arith, vec_capacity}
use Rattle.des_queue.specs.Calendar.{AreOrderly, events_of}
use Rattle.des_queue.proofs.Calendars.{none_orderly}
use Rattle.des_queue.proofs.Inserting.{empty}
use Rattle.des_queue.proofs.calendar.Calendar.go_on.Goals as goal

after : (g : _) (c : goal.After-go_on g) → let due = c.self.inside.due in let d = c.go_on.new.self in
    AreOrderly due d × (events_of due.items d ≡ c.args.self.now)
after g c =
    let q = c.self.inside in let is = c.self.invariant in let gone = c.go_on.ensures in
    let none : q.due.items ≡ [] = empty q.due.items (omega (arith, c.if-len-gt0.false, c.len.ensures, q.due.ok.0)) in
    let new = none_orderly q.due c.go_on.new.self none gone.none (gone.days (vec_capacity q.due) is.orderly.days) in
    let old = none_orderly q.due q.days none (is.whole none) is.orderly.days in
    (new.0, new.1 ∙ sym old.1 ∙ c.self.view_is)

pub invariant_of-self : goal.invariant_of-self
invariant_of-self g c = record { orderly = (after g c).0; whole = λ _. c.go_on.ensures.none }

pub returns : goal.returns
returns g c = (after g c).1
