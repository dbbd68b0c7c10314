use Rattle.std.proofs.Common.{◌≡◌, ◌∙◌, ◌∷◌, [], List, ap, refl, subst, sym, arith}
use Rattle.std.specs.Prelude.{IsSome}
use Rattle.std.specs.BinaryHeap.{heap_items}
use Rattle.des_queue.specs.Shelf.{get}
use Rattle.des_event.specs.declared.event.Event.{Event}
use Rattle.des_queue.specs.Places.{Entry, Held, heap_events, events_at, in_key_order}
use Rattle.des_queue.proofs.Inserting.{empty}
use Rattle.des_queue.proofs.Places.{event_of, held_by, held_permuted, placed_by, popped}
use Rattle.des_queue.proofs.event_heap.EventHeap.pop_first.Goals as goal

after : (g : _) (c : goal.After-remove g) → let t = get c.remove.new.self in let rest = heap_items c.pop.new.self in
    Held t rest × (heap_events c.self.inside ≡ c.remove.result ∷ in_key_order (events_at t rest))
after g c =
    let p = c.self.inside in let out = c.in_ok-waiting.ensures in
    popped (get p.events) (get c.remove.new.self) (heap_items p.heap) (heap_items c.pop.new.self) c.in_ok-waiting.waiting c.remove.result
    (held_by p c.self.invariant)
    out.permutation (out.below_top c.self.invariant.ordered) c.remove.ensures.value c.remove.ensures.changed

pub invariant_of-self-2 : goal.invariant_of-self-2
invariant_of-self-2 g c =
    let out = c.in_ok-waiting.ensures in
    placed_by (record {
      heap = c.pop.new.self;
      events = c.remove.new.self;
      alloc = c.self.inside.alloc;
    }) (out.heap_order c.self.invariant.ordered).0 (after g c).0
    (omega (arith, c.remove.ensures.count, out.len, c.self.invariant.counted))

pub returns : goal.returns
returns g c = sym c.self.view_is ∙ (after g c).1

pub remove-requires : goal.remove-requires
remove-requires g c =
    let p = c.self.inside in let out = c.in_ok-waiting in let s = get p.events in
    let held = held_permuted s (heap_items p.heap) (out.waiting ∷ heap_items c.pop.new.self) out.ensures.permutation (held_by p c.self.invariant) in
    subst IsSome (sym (event_of s out.waiting held.placed.0).1) refl

pub returns-in_err-waiting : goal.returns-in_err-waiting
returns-in_err-waiting g c =
    let p = c.self.inside in let out = c.in_err-waiting.ensures in
    let shown : List Entry → List (Event _) = λ ws. in_key_order (events_at (get p.events) ws) in
    let none : heap_items p.heap ≡ [] = empty (heap_items p.heap) (omega (arith, out.none, p.heap.data.ok.0)) in
    rw c.from_residual.ensures (sym c.self.view_is ∙ ap shown none, ap shown (out.unchanged.0 ∙ none))
