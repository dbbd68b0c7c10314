use Rattle.std.proofs.Common.{◌≡◌, List, ◌∙◌, [], ◌∷◌, ◌++◌, refl, sym, ap, subst, append_assoc}
use Rattle.std.specs.List.{filter}
use Rattle.des_queue.specs.Shelf.{get}
use Rattle.des_event.specs.declared.event.Event.{Event}
use Rattle.des_queue.specs.Places.{is_due, events_at, in_key_order}
use Rattle.des_queue.proofs.Due.{Due, due_events, held_due, last_out, last_some}
use Rattle.des_queue.proofs.Places.{held_permuted, order_permuted}
use Rattle.des_queue.proofs.waiting.copies_before.Goals as goal

pub loop-waiting-init : goal.loop-waiting-init
loop-waiting-init g c =
    let s = get c.args.events.now in let h = c.args.horizon in let due = c.in_ok-due.due.items in
    let ws = c.args.entries.now in
    let first = held_due s ws h c.requires in let moved = c.in_ok-due.ensures.same in
    let same = order_permuted s (filter (is_due h) ws) due moved first in record {
      due = record { held = held_permuted s (filter (is_due h) ws) due moved first; sorted = c.in_ok-due.ensures.sorted };
      whole = ap (λ l. l ++ in_key_order (events_at s due)) c.new-copies.ensures.items ∙ sym same ∙ due_events s ws h c.requires;
    }

pub copy_of-requires : goal.copy_of-requires
copy_of-requires g c =
    let s = c.args.events.now in
    last_some s c.pop.new.self.items c.in-Some.waiting (subst (Due (get s)) c.in-Some.ensures.items c.loop-waiting.invariant.due)

pub loop-waiting-preserved : goal.loop-waiting-preserved
loop-waiting-preserved g c =
    let s = get c.args.events.now in let rest = c.pop.new.self.items in let w = c.in-Some.waiting in let ys = c.loop-waiting.copies.items
    in let e = c.in_ok-copy_of.field-0 in
    let out = last_out s rest w e (subst (Due s) c.in-Some.ensures.items c.loop-waiting.invariant.due) c.in_ok-copy_of.ensures in
    let later = in_key_order (events_at s rest) in
    let more : c.push.new.self.items ≡ ys ++ e ∷ [] = ◌∙◌ {A = List (Event _)} c.in_ok-push.ensures.items refl in
    let front : in_key_order (events_at s c.loop-waiting.due.items) ≡ e ∷ later = ap (λ l. in_key_order (events_at s l)) c.in-Some.ensures.items
    ∙ out.1 in record {
      due = out.0;
      whole = ap (λ l. l ++ later) more ∙ append_assoc ys (e ∷ []) later ∙ ap (λ l. ys ++ l) (sym front) ∙ c.loop-waiting.invariant.whole;
    }
