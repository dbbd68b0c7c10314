use Rattle.std.specs.Prelude.{Result, Ok, Err, OnOk}
use Rattle.des_queue.proofs.Inserting.{apart_back}
use Rattle.des_queue.proofs.Shuffled.{apart_distinct, apart_shuffled, same_shuffled}
use Rattle.des_queue.proofs.pending.Pending.insert_all.Goals as goal

pub sort_down-requires : goal.sort_down-requires
sort_down-requires g c = apart_distinct c.args.events.items (apart_back c.args.self.now c.args.events.items c.requires)

pub move_all-requires : goal.move_all-requires
move_all-requires g c =
    apart_shuffled c.args.self.now c.args.events.items c.sort_down.new.events.items c.sort_down.ensures.same c.requires

after : {A E P Q : Type 0} (r : Result A E) → (P → Q) → OnOk r P → OnOk r Q
after (Ok a) then p = then p
after (Err e) then p = tt

pub returns-clause-same : goal.returns-clause-same
returns-clause-same g c =
    after c.move_all.result
    (λ same x.
    let moved = same_shuffled c.args.self.now c.args.events.items c.sort_down.new.events.items c.sort_down.ensures.same x in
    (λ i. moved.0 ((same x).0 i), λ i. (same x).1 (moved.1 i)))
    c.move_all.ensures.same
