use Rattle.std.proofs.Common.{◌≡◌, ◌∙◌, refl, sym, ap, subst, arith}
use Rattle.std.specs.BinaryHeap.{IsHeap, heap_items}
use Rattle.des_event.specs.KeyOrder.{put_in_order}
use Rattle.des_queue.specs.EventKey.{event_key}
use Rattle.des_queue.specs.Places.{Held, waiting_cmp, events_at, in_key_order}
use Rattle.des_queue.specs.Shelf.{get, shelf_len}
use Rattle.des_queue.proofs.Places.{inserted, kept_by, placed_by}
use Rattle.des_queue.proofs.Shelves.{get_kept}
use Rattle.des_queue.proofs.event_heap.EventHeap.insert.Goals as goal

after : (g : _) (c : goal.In-Ok g) → let t = get c.insert_reserved-place.new.self in let more = heap_items c.push.new.self in
    Held t more × (in_key_order (events_at t more) ≡ put_in_order event_key c.args.event c.args.self.now)
after g c =
    let s = c.make_room.new.self in let ws = heap_items c.reserve.new.self in let place = c.insert_reserved-place.ensures in
    let kept = kept_by c.self.inside s ws c.self.invariant c.reserve.ensures.items
    (get_kept c.self.inside.events s s.ready c.make_room.ensures.kept) in
    inserted (get s) (get c.insert_reserved-place.new.self) ws (heap_items c.push.new.self) c.args.self.now _ c.args.event kept.0
    (kept.1 ∙ c.self.view_is) c.requires refl
    place.was_vacant place.changed c.in-Ok.ensures.permutation

pub invariant_of-self-2 : goal.invariant_of-self-2
invariant_of-self-2 g c =
    let p = c.self.inside in let t = c.insert_reserved-place.new.self in
    let heap : IsHeap waiting_cmp (heap_items c.reserve.new.self) = subst (IsHeap waiting_cmp) (sym c.reserve.ensures.items) c.self.invariant.ordered in
    let same : shelf_len c.make_room.new.self ≡ shelf_len p.events = ap shelf_len c.make_room.ensures.kept in
    placed_by (record { heap = c.push.new.self; events = t; alloc = p.alloc }) (c.in-Ok.ensures.heap_order heap) (after g c).0
    (omega (arith, c.insert_reserved-place.ensures.count, same, c.self.invariant.counted, c.reserve.ensures.len, c.in-Ok.ensures.len))

pub invariant_of-self-then-is_err-2 : goal.invariant_of-self-then-is_err-2
invariant_of-self-then-is_err-2 g c =
    let p = c.self.inside in let s = c.make_room.new.self in let ws = heap_items c.reserve.new.self in
    let kept = kept_by p s ws c.self.invariant c.reserve.ensures.items (get_kept p.events s s.ready c.make_room.ensures.kept) in
    placed_by (record { heap = c.reserve.new.self; events = s; alloc = p.alloc })
    (subst (IsHeap waiting_cmp) (sym c.reserve.ensures.items) c.self.invariant.ordered) kept.0
    (omega (arith, ap shelf_len c.make_room.ensures.kept, c.self.invariant.counted, c.reserve.ensures.len))

pub returns-clause-ok : goal.returns-clause-ok
returns-clause-ok g c = (after g c).1

pub returns-then-is_err-2-clause-err : goal.returns-then-is_err-2-clause-err
returns-then-is_err-2-clause-err g c =
    let p = c.self.inside in let s = c.make_room.new.self in let ws = heap_items c.reserve.new.self in
    (refl, (kept_by p s ws c.self.invariant c.reserve.ensures.items (get_kept p.events s s.ready c.make_room.ensures.kept)).1 ∙ c.self.view_is)
