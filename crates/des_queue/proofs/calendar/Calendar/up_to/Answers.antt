use Rattle.std.proofs.Common.{◌≡◌, ◌≤◌, ◌∙◌, ◌++◌, ℕ, List, ap, append-nil, arith, drop, length, subst, sym}
use Rattle.std.specs.Prelude.{IfOk}
use Rattle.std.proofs.lemmas.Grind.{common_steps}
use Rattle.std.proofs.lemmas.List.{drop_all}
use Rattle.des_queue.specs.Shelf.{get}
use Rattle.des_event.specs.declared.event.Event.{Event}
use Rattle.des_event.specs.KeyOrder.{before}
use Rattle.des_queue.specs.Days.{entries_in}
use Rattle.des_queue.specs.EventKey.{event_key}
use Rattle.des_queue.specs.Places.{Entry, Held, events_at, in_key_order}
use Rattle.des_queue.proofs.calendar.Calendar.up_to.Goals as goal

pub loop-waiting-preserved : goal.loop-waiting-preserved
loop-waiting-preserved g c = grind (arith, common_steps)

-- all entries are there, those of opened days and those of later ones
all_entries : (due later taken all : List Entry) (i : ℕ) → length due ≤ i → taken ++ drop i due ≡ due → all ≡ taken ++ later → all ≡ due ++ later
all_entries due later taken all i end before more =
    more ∙ ap (λ ws. ws ++ later) (sym (append-nil taken) ∙ ap (λ ws. taken ++ ws) (sym (drop_all i due end)) ∙ before)

pub copies_before-requires : goal.copies_before-requires
copies_before-requires g c =
    let q = c.self.inside in
    let all = all_entries q.due.items (entries_in q.days) c.loop-waiting.entries.items c.add_all.new.entries.items c.loop-waiting.waiting-index
    (omega (arith, c.loop-waiting-test.false, c.deref-waiting-items.ensures.len, q.due.ok.0)) c.loop-waiting.invariant c.in_ok-add_all.ensures in
    subst (Held (get q.days.events)) (sym (c.deref.ensures.value ∙ all)) c.self.invariant.orderly.held

pub returns : goal.returns
returns g c =
    let q = c.self.inside in
    let all = all_entries q.due.items (entries_in q.days) c.loop-waiting.entries.items c.add_all.new.entries.items c.loop-waiting.waiting-index
    (omega (arith, c.loop-waiting-test.false, c.deref-waiting-items.ensures.len, q.due.ok.0)) c.loop-waiting.invariant c.in_ok-add_all.ensures in
    subst (λ (es : List (Event _)). IfOk c.copies_before.result (λ copies. copies.items ≡ before event_key c.args.horizon es))
    (ap (λ (ws : List Entry). in_key_order (events_at (get q.days.events) ws)) (c.deref.ensures.value ∙ all) ∙ c.self.view_is) c.copies_before.ensures
