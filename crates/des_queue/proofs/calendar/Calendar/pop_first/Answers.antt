use Rattle.std.proofs.Common.{◌≡◌, ◌∙◌, ◌∷◌, [], List, append-nil, arith, refl, sym, ap, subst}
use Rattle.std.specs.Prelude.{IsSome}
use Rattle.des_queue.specs.Shelf.{Shelved, get}
use Rattle.des_event.specs.declared.event.Event.{Event}
use Rattle.des_event.specs.KeyOrder.{IsNewKey}
use Rattle.des_queue.specs.Calendar.{AreOrderly, events_of}
use Rattle.des_queue.specs.EventKey.{event_key}
use Rattle.des_queue.specs.Places.{Entry}
use Rattle.des_queue.specs.declared.days.Days.{Days}
use Rattle.des_queue.proofs.Calendars.{IsTaken, freed_orderly, none_orderly, taken_due}
use Rattle.des_queue.proofs.Inserting.{empty}
use Rattle.des_queue.proofs.calendar.Calendar.pop_first.Goals as goal

pub refill-requires : goal.refill-requires
refill-requires g c =
    let q = c.self.inside in let out = c.in_ok-waiting in
    (taken_due q.due c.pop.new.self q.days out.waiting c.self.invariant.orderly out.ensures.items out.ensures.capacity).rest

taken : (g : _) (c : goal.After-remove g) → IsTaken c.self.inside.due c.pop.new.self c.self.inside.days c.in_ok-waiting.waiting
taken g c =
    let q = c.self.inside in let out = c.in_ok-waiting in
    taken_due q.due c.pop.new.self q.days out.waiting c.self.invariant.orderly out.ensures.items out.ensures.capacity

-- the event that was taken is that of the entry
same : (g : _) (c : goal.After-remove g) → c.remove.result ≡ (taken g c).event
same g c =
    let there = (taken g c).there in let value = c.remove.ensures.value in
    let kept = ap (λ (s : Shelved _). get s c.in_ok-waiting.waiting.place) c.refill.ensures.kept in cc

freed : (g : _) (c : goal.After-remove g) → let due = c.refill.new.due in let d = c.refill.new.days in
    let new : Days _ = record d { events = c.remove.new.self } in
    AreOrderly due new × (events_of due.items new ≡ events_of due.items d)
freed g c =
    let d = c.refill.new.days in let due = c.refill.new.due in let e = c.remove.result in
    freed_orderly due d c.remove.new.self c.in_ok-waiting.waiting.place e c.refill.ensures.orderly c.remove.ensures.value
    (subst (IsNewKey event_key e.key) (sym c.refill.ensures.same)
    (subst (λ (x : Event _). IsNewKey event_key x.key (events_of c.pop.new.self.items c.self.inside.days)) (sym (same g c)) (taken g c).other))
    c.remove.ensures.changed

pub invariant_of-self-2 : goal.invariant_of-self-2
invariant_of-self-2 g c = record { orderly = (freed g c).0; whole = c.refill.ensures.whole }

pub returns : goal.returns
returns g c =
    sym c.self.view_is ∙ (taken g c).first
    ∙ (λ i. sym (same g c) i ∷ (sym c.refill.ensures.same ∙ sym (freed g c).1) i)

pub remove-requires : goal.remove-requires
remove-requires g c =
    let q = c.self.inside in let out = c.in_ok-waiting in let place = out.waiting.place in
    let there = (taken_due q.due c.pop.new.self q.days out.waiting c.self.invariant.orderly out.ensures.items out.ensures.capacity).there in
    subst IsSome (sym (ap (λ (s : Shelved _). get s place) c.refill.ensures.kept ∙ there)) refl

pub returns-in_err-waiting : goal.returns-in_err-waiting
returns-in_err-waiting g c =
    let q = c.self.inside in let out = c.in_err-waiting.ensures in
    let none : q.due.items ≡ [] = empty q.due.items (omega (arith, out.cases.0, q.due.ok.0)) in
    let all = (none_orderly q.due q.days none (c.self.invariant.whole none) c.self.invariant.orderly.days).1 in
    let same : c.pop.new.self.items ≡ q.due.items = sym (out.items ∙ append-nil c.pop.new.self.items) in
    rw c.from_residual.ensures (sym c.self.view_is ∙ all, ap (λ (ws : List Entry). events_of ws q.days) same ∙ all)
