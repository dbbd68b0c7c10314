-- The new event's number is greater than those before it.
use Rattle.std.proofs.Common.{◌≡◌, ◌+◌, ◌<◌, ap, sym, subst, arith}
use Rattle.std.specs.List.{AllByRecursion}
use Rattle.chord_event.specs.declared.body.Body.{Body}
use Rattle.des_event.specs.declared.event.Event.{Event}
use Rattle.des_event.specs.declared.key.Key.{Key}
use Rattle.des_event.specs.KeyOrder.{put_in_order}
use Rattle.des_event.proofs.KeyLists.{all_from, all_in, all_put}
use Rattle.des_queue.specs.EventKey.{event_key}
use Rattle.chord_examples.proofs.tests.queues.insert_later.Goals as goal

pub returns : goal.returns
returns g c =
    let e = c.event-later.result in let es = c.args.pending.now in let n = c.args.number in
    let own : e.key.number ≡ n = ap (λ (k : Key). k.number) c.event-later.ensures in
    let below = λ (x : Event Body). x.key.number < n + 1 in
    let rest : AllByRecursion below es = all_from below es (λ x h. omega (arith, all_in (λ (y : Event Body). y.key.number < n) es c.requires x h)) in
    let more : AllByRecursion below (put_in_order event_key e es) = all_put event_key below e es (omega (arith, own)) rest in
    subst (AllByRecursion below) (sym c.insert.ensures) more
