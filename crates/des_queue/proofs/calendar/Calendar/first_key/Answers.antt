use Rattle.std.proofs.Common.{◌≡◌, ◌∙◌, ◌++◌, ◌-◌, List, Some, option_map, slice_get, sym, ap, subst, length}
use Rattle.des_queue.specs.Shelf.{get}
use Rattle.des_event.specs.declared.event.Event.{Event}
use Rattle.des_queue.specs.Days.{entries_in}
use Rattle.des_queue.specs.Places.{Entry}
use Rattle.des_queue.proofs.Calendars.{first_due, last_split}
use Rattle.des_queue.proofs.Places.{first_says}
use Rattle.des_queue.proofs.calendar.Calendar.first_key.Goals as goal

pub returns : goal.returns
returns g c =
    let q = c.self.inside in let is = c.self.invariant.orderly in let w = c.in_ok-waiting.waiting.now in
    let split = last_split q.due.items w
    (subst (λ (ws : List Entry). slice_get ws (length ws - 1) ≡ Some w) c.deref.ensures.value (sym c.in_ok-waiting.ensures.value)) in
    let first = first_due q.due split.0 q.days w is split.1 in
    first_says (λ k. k) (get q.days.events) (q.due.items ++ entries_in q.days) (split.0 ++ entries_in q.days) w is.held first.moved first.bound
    ∙ ap (λ (es : List (Event _)). option_map (λ (e : Event _). e.key) (slice_get es 0)) c.self.view_is
