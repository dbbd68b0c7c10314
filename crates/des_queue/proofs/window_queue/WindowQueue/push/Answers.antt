use Rattle.std.proofs.Common.{◌≡◌, ◌∙◌, ◌+◌, List, [], ◌∷◌, ◌++◌, length, length-append, slice_get, refl, sym, ap, subst}
use Rattle.std.specs.BinaryHeap.{IsHeap, heap_items}
use Rattle.des_arena.specs.Arena.{Arena}
use Rattle.des_event.specs.declared.event.Event.{Event}
use Rattle.des_event.specs.KeyOrder.{put_in_order}
use Rattle.des_queue.specs.EventKey.{event_key}
use Rattle.des_queue.specs.Places.{Held, Entry, waiting_cmp, events_at, in_key_order}
use Rattle.des_queue.specs.Queue.{Queue}
use Rattle.des_queue.proofs.Places.{inserted}
use Rattle.des_queue.proofs.Tickets.{changes_at, free_at, held_by, seen_as, seen_same, ticketed}
use Rattle.des_queue.proofs.window_queue.WindowQueue.push.Goals as goal
use Rattle.des_queue.proofs.window_queue.WindowQueue.push.Goals.{then-is_err-via-then-is_err, then-is_err-via-else-is_err+then-is_err-2}

after : (g : _) (c : goal.In-Ok-push g) → let rs = c.reserve-else-is_err.new.self.items ++ c.args.event ∷ [] in let more = heap_items c.push.new.self in
    Held (slice_get rs) more × (in_key_order (events_at (slice_get rs) more) ≡ put_in_order event_key c.args.event c.args.self.now.events)
after g c =
    let q = c.self.inside in let e = c.args.event in
    let rs = c.reserve-else-is_err.new.self.items in let ws = heap_items c.reserve.new.self in
    let records : q.records.items ≡ rs = sym c.reserve-else-is_err.ensures.items in let entries : heap_items q.heap ≡ ws = sym c.reserve.ensures.items in
    let held : Held (slice_get rs) ws = subst (λ (p : List (Event _) × List Entry). Held (slice_get p.0) p.1) (λ i. (records i, entries i))
    (held_by q c.self.invariant) in
    let shown : in_key_order (events_at (slice_get rs) ws) ≡ c.args.self.now.events =
    (λ i. in_key_order (events_at (slice_get (sym records i)) (sym entries i))) ∙ ap (λ (v : Queue _). v.events) c.self.view_is in
    inserted (slice_get rs) (slice_get (rs ++ e ∷ [])) ws (heap_items c.push.new.self) c.args.self.now.events _ e held shown c.requires.new_key refl
    (free_at rs _ c.in-Ok.ensures.ticket) (changes_at rs e _ c.in-Ok.ensures.ticket) c.in-Ok-push.ensures.permutation

pub invariant_of-self-in-Ok : goal.invariant_of-self-in-Ok
invariant_of-self-in-Ok g c =
    let heap : IsHeap waiting_cmp (heap_items c.reserve.new.self) = subst (IsHeap waiting_cmp) (sym c.reserve.ensures.items) c.self.invariant.ordered in
    ticketed (record {
      heap = c.push.new.self;
      records = c.place.new.self;
    }) _ _ (ap (λ (a : Arena (Event _)). a.items) c.in-Ok.ensures.ok) refl (c.in-Ok-push.ensures.heap_order heap) (after g c).0

pub returns-clause-ok : goal.returns-clause-ok
returns-clause-ok g c =
    let rs = c.reserve-else-is_err.new.self.items in let e = c.args.event in
    let pushes : length (rs ++ e ∷ []) ≡ c.args.self.now.pushes + 1 =
    length-append rs (e ∷ []) ∙ ap (λ n. n + 1) (ap length c.reserve-else-is_err.ensures.items ∙ ap (λ (v : Queue _). v.pushes) c.self.view_is) in
    seen_as (record {
      heap = c.push.new.self;
      records = c.place.new.self;
    }) (rs ++ e ∷ []) (heap_items c.push.new.self) _ _ (ap (λ (a : Arena (Event _)). a.items) c.in-Ok.ensures.ok) refl (after g c).1 pushes

pub returns-then-is_err-clause-err : goal.returns-then-is_err-clause-err
returns-then-is_err-clause-err g c =
    let q = c.self.inside in
    elim c.then-is_err.branch [
      | then-is_err-via-then-is_err w ↦
          (refl, w.self-is ∙ seen_same (record { heap = c.reserve.new.self; records = q.records }) q refl c.reserve.ensures.items ∙ c.self.view_is)
      | then-is_err-via-else-is_err+then-is_err-2 w ↦ (
        refl,
        w.self-is ∙ seen_same (record { heap = c.reserve.new.self; records = w.reserve-else-is_err.new.self }) q
            w.reserve-else-is_err.ensures.items c.reserve.ensures.items ∙ c.self.view_is,
      )
    ]
