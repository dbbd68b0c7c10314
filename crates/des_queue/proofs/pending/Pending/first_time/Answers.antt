use Rattle.std.proofs.Common.{◌≡◌, ◌∙◌, ◌++◌, [], sym, ap}
use Rattle.des_event.proofs.Order.{is_before-true}
use Rattle.des_queue.specs.Places.{in_key_order}
use Rattle.des_queue.proofs.Pendings.{first_left, first_right, leads_by, leads_none, no_first, other_first, time_of}
use Rattle.des_queue.proofs.pending.Pending.first_time.Goals as goal

pub returns-in_default-first_key : goal.returns-in_default-first_key
returns-in_default-first_key g c =
    let p = c.self.inside in
    let left : p.calendar ≡ [] = no_first p.calendar (sym c.first_key.ensures ∙ c.in_default.is) in
    let right : p.rest ≡ [] = no_first p.rest (sym c.first_key-in_default.ensures ∙ c.in_default-first_key.is) in
    sym (λ i. time_of (in_key_order (left i ++ right i))) ∙ ap time_of c.self.view_is

pub returns-in_default : goal.returns-in_default
returns-in_default g c =
    let p = c.self.inside in
    first_right p.calendar p.rest c.in-Some-first_key.other (sym c.first_key-in_default.ensures ∙ c.in-Some-first_key.is)
    c.recall_order-2.ensures c.self.invariant
    (leads_none p.rest p.calendar (no_first p.calendar (sym c.first_key.ensures ∙ c.in_default.is))) ∙ ap time_of c.self.view_is

pub returns-in_default-first_key-2 : goal.returns-in_default-first_key-2
returns-in_default-first_key-2 g c =
    let p = c.self.inside in
    first_left p.calendar p.rest c.in-Some.key (sym c.first_key.ensures ∙ c.in-Some.is) c.recall_order.ensures c.self.invariant
    (leads_none p.calendar p.rest (no_first p.rest (sym c.first_key-2.ensures ∙ c.in_default-first_key-2.is))) ∙ ap time_of c.self.view_is

pub returns-then-is_before : goal.returns-then-is_before
returns-then-is_before g c =
    let p = c.self.inside in let k = c.in-Some.key in let j = c.in-Some-first_key-2.other in
    first_left p.calendar p.rest k (sym c.first_key.ensures ∙ c.in-Some.is) c.recall_order.ensures c.self.invariant
    (leads_by p.calendar p.rest k j (sym c.first_key.ensures ∙ c.in-Some.is) (sym c.first_key-2.ensures ∙ c.in-Some-first_key-2.is) c.recall_order-2.ensures
    (is_before-true k j (sym c.is_before.ensures ∙ c.if-is_before.true))) ∙ ap time_of c.self.view_is

pub returns : goal.returns
returns g c =
    let p = c.self.inside in let k = c.in-Some.key in let j = c.in-Some-first_key-2.other in
    first_right p.calendar p.rest j (sym c.first_key-2.ensures ∙ c.in-Some-first_key-2.is) c.recall_order-2.ensures c.self.invariant
    (leads_by p.rest p.calendar j k (sym c.first_key-2.ensures ∙ c.in-Some-first_key-2.is) (sym c.first_key.ensures ∙ c.in-Some.is) c.recall_order.ensures
    (other_first p.calendar p.rest k j (sym c.first_key.ensures ∙ c.in-Some.is) (sym c.first_key-2.ensures ∙ c.in-Some-first_key-2.is) c.self.invariant
    (sym c.is_before.ensures ∙ c.if-is_before.false))) ∙ ap time_of c.self.view_is
