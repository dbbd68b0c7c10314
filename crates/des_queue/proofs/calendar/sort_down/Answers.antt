use Rattle.std.proofs.Common.{rules}
use Rattle.std.proofs.lemmas.List.Sorted.{answers_always}
use Rattle.des_event.specs.declared.event.Event.{Event}
use Rattle.des_queue.proofs.Orders.{distinct_permuted, sorted_down}
use Rattle.des_queue.proofs.calendar.sort_down.Goals as goal

pub returns-clause-down : goal.returns-clause-down
returns-clause-down g c =
    let facts = c.sort_unstable_by_key.ensures in let es = c.sort_unstable_by_key.new.self.items in
    sorted_down es (distinct_permuted c.args.events.now.items es facts.permutation c.requires)
    (facts.sorted (λ (e : Event _). record { 0 = e.key }) (answers_always _ _ _ (λ f a r g called. search rules)))
