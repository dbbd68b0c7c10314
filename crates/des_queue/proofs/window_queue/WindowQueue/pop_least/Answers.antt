use Rattle.std.proofs.Common.{◌≡◌, ◌∙◌, ◌∷◌, length, drop, slice_get, refl, sym, ap}
use Rattle.std.specs.BinaryHeap.{heap_items}
use Rattle.des_queue.specs.Places.{events_at, in_key_order}
use Rattle.des_queue.specs.Queue.{Queue}
use Rattle.des_queue.proofs.Tickets.{popped, seen_as, ticketed}
use Rattle.des_queue.proofs.window_queue.WindowQueue.pop_least.Goals as goal

pub invariant_of-self-2 : goal.invariant_of-self-2
invariant_of-self-2 g c =
    let top = c.in_ok-waiting.ensures in let rest = heap_items c.pop.new.self in
    let out = popped c.self.inside c.in_ok-waiting.waiting rest c.self.invariant top.permutation (top.below_top c.self.invariant.ordered) in
    ticketed (record {
      heap = c.pop.new.self;
      records = c.self.inside.records;
    }) c.self.inside.records.items rest refl refl (top.heap_order c.self.invariant.ordered).0 out.held

pub returns : goal.returns
returns g c =
    let top = c.in_ok-waiting.ensures in let rest = heap_items c.pop.new.self in
    let out = popped c.self.inside c.in_ok-waiting.waiting rest c.self.invariant top.permutation (top.below_top c.self.invariant.ordered) in
    let old = c.args.self.now in let records = c.self.inside.records in
    let front : old.events ≡ out.event ∷ in_key_order (events_at (slice_get records.items) rest) = sym (ap (λ (v : Queue _). v.events) c.self.view_is)
    ∙ out.front in
    let pushes : length records.items ≡ old.pushes = ap (λ (v : Queue _). v.pushes) c.self.view_is in (
      (
        refl,
        (λ _. tt),
        seen_as (record { heap = c.pop.new.self; records = records }) records.items rest (drop 1 old.events) old.pushes refl refl
            (sym (ap (drop 1) front)) pushes,
      ),
      record { rest = tt; least = sym c.get.ensures ∙ out.there ∙ sym (ap (λ es. slice_get es 0) front) },
    )
