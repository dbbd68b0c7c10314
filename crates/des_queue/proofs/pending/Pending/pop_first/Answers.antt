use Rattle.std.proofs.Common.{◌∙◌, ◌++◌, sym, subst}
use Rattle.des_event.proofs.Order.{is_before-true}
use Rattle.des_queue.specs.Calendar.{AreDistinct}
use Rattle.des_queue.specs.Places.{in_key_order}
use Rattle.des_queue.proofs.Pendings.{Events, Pops, leads_by, leads_none, no_first, other_first, popped_left, popped_right}
use Rattle.des_queue.proofs.pending.Pending.pop_first.Goals as goal

rest_alone : (g : _) (c : goal.After-pop_rest g) → let p = c.self.inside in let d = c.pop_rest.new.calendar in let s = c.pop_rest.new.rest in
    AreDistinct (d ++ s) × Pops c.pop_rest.result (in_key_order (p.calendar ++ p.rest)) (in_key_order (d ++ s))
rest_alone g c =
    let p = c.self.inside in let d = c.pop_rest.new.calendar in let s = c.pop_rest.new.rest in
    let out = popped_right p.calendar p.rest s c.pop_rest.result c.pop_rest.ensures.popped c.recall_order-2.ensures c.self.invariant
    (leads_none p.rest p.calendar (no_first p.calendar (sym c.first_key.ensures ∙ c.in_default.is))) in
    subst (λ (l : Events _). AreDistinct (l ++ s) × Pops c.pop_rest.result (in_key_order (p.calendar ++ p.rest)) (in_key_order (l ++ s)))
    (sym c.pop_rest.ensures.same) out

pub invariant_of-self : goal.invariant_of-self
invariant_of-self g c = (rest_alone g c).0

pub returns-in_default : goal.returns-in_default
returns-in_default g c =
    subst (λ (l : Events _). Pops c.pop_rest.result l (in_key_order (c.pop_rest.new.calendar ++ c.pop_rest.new.rest))) c.self.view_is (rest_alone g c).1

calendar_alone : (g : _) (c : goal.After-pop_first g) → let p = c.self.inside in let d = c.pop_first.new.self in
    AreDistinct (d ++ p.rest) × Pops c.pop_first.result (in_key_order (p.calendar ++ p.rest)) (in_key_order (d ++ p.rest))
calendar_alone g c =
    let p = c.self.inside in let pop = c.pop_first in
    popped_left p.calendar pop.new.self p.rest pop.result pop.ensures c.recall_order.ensures c.self.invariant
    (leads_none p.calendar p.rest (no_first p.rest (sym c.first_key-2.ensures ∙ c.in_default-first_key.is)))

pub invariant_of-self-in_default-first_key : goal.invariant_of-self-in_default-first_key
invariant_of-self-in_default-first_key g c = (calendar_alone g c).0

pub returns-in_default-first_key : goal.returns-in_default-first_key
returns-in_default-first_key g c =
    let pop = c.pop_first in
    subst (λ (l : Events _). Pops pop.result l (in_key_order (pop.new.self ++ c.self.inside.rest))) c.self.view_is (calendar_alone g c).1

calendar_first : (g : _) (c : goal.After-pop_first-then-is_before g) → let p = c.self.inside in let d = c.pop_first-then-is_before.new.self in
    AreDistinct (d ++ p.rest) × Pops c.pop_first-then-is_before.result (in_key_order (p.calendar ++ p.rest)) (in_key_order (d ++ p.rest))
calendar_first g c =
    let p = c.self.inside in let pop = c.pop_first-then-is_before in let k = c.in-Some.key in let j = c.in-Some-first_key.other in
    popped_left p.calendar pop.new.self p.rest pop.result pop.ensures c.recall_order.ensures c.self.invariant
    (leads_by p.calendar p.rest k j (sym c.first_key.ensures ∙ c.in-Some.is) (sym c.first_key-2.ensures ∙ c.in-Some-first_key.is) c.recall_order-2.ensures
    (is_before-true k j (sym c.is_before.ensures ∙ c.if-is_before.true)))

pub invariant_of-self-then-is_before : goal.invariant_of-self-then-is_before
invariant_of-self-then-is_before g c = (calendar_first g c).0

pub returns-then-is_before : goal.returns-then-is_before
returns-then-is_before g c =
    let pop = c.pop_first-then-is_before in
    subst (λ (l : Events _). Pops pop.result l (in_key_order (pop.new.self ++ c.self.inside.rest))) c.self.view_is (calendar_first g c).1

rest_first : (g : _) (c : goal.After-pop_first-2 g) → let p = c.self.inside in let s = c.pop_first-2.new.self in
    AreDistinct (p.calendar ++ s) × Pops c.pop_first-2.result (in_key_order (p.calendar ++ p.rest)) (in_key_order (p.calendar ++ s))
rest_first g c =
    let p = c.self.inside in let pop = c.pop_first-2 in let k = c.in-Some.key in let j = c.in-Some-first_key.other in
    popped_right p.calendar p.rest pop.new.self pop.result pop.ensures c.recall_order-2.ensures c.self.invariant
    (leads_by p.rest p.calendar j k (sym c.first_key-2.ensures ∙ c.in-Some-first_key.is) (sym c.first_key.ensures ∙ c.in-Some.is) c.recall_order.ensures
    (other_first p.calendar p.rest k j (sym c.first_key.ensures ∙ c.in-Some.is) (sym c.first_key-2.ensures ∙ c.in-Some-first_key.is) c.self.invariant
    (sym c.is_before.ensures ∙ c.if-is_before.false)))

pub invariant_of-self-2 : goal.invariant_of-self-2
invariant_of-self-2 g c = (rest_first g c).0

pub returns : goal.returns
returns g c =
    subst (λ (l : Events _). Pops c.pop_first-2.result l (in_key_order (c.self.inside.calendar ++ c.pop_first-2.new.self))) c.self.view_is (rest_first g c).1
