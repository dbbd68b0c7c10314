use Rattle.std.proofs.Common.{◌<◌, [], length}
use Rattle.std.specs.Prelude.{Result, Ok, Err, IfOk, OnOk}
use Rattle.des_event.specs.declared.event.Event.{Event}
use Rattle.des_queue.proofs.Shuffled.{apart_shuffled}
use Rattle.des_team.proofs.Starts.{all_sorted, dealt_sorted, least_sorted}
use Rattle.des_team.proofs.start.deal_events.Goals as goal

-- The parts get in one order what they would get in another.

pub deal_in_turn-requires-clause-nodes : goal.deal_in_turn-requires-clause-nodes
deal_in_turn-requires-clause-nodes g c = all_sorted c.args.events.items c.sort_unstable_by_key.new.self.items c.sort_unstable_by_key.ensures.permutation
    (λ (x : Event _). x.target < length c.args.layout.now.division.of_node) c.requires.nodes

pub deal_in_turn-requires-clause-apart : goal.deal_in_turn-requires-clause-apart
deal_in_turn-requires-clause-apart g c =
    apart_shuffled [] c.args.events.items c.sort_unstable_by_key.new.self.items c.sort_unstable_by_key.ensures.permutation c.requires.apart

after : {A E P Q : Type 0} (r : Result A E) → (P → Q) → OnOk r P → OnOk r Q
after (Ok a) then p = then p
after (Err e) then p = tt

pub returns-clause-dealt : goal.returns-clause-dealt
returns-clause-dealt g c = after c.deal_in_turn.result
    (dealt_sorted c.args.events.items c.sort_unstable_by_key.new.self.items c.sort_unstable_by_key.ensures.permutation c.args.layout.now.division
    c.args.parts.now.items c.deal_in_turn.new.parts.items)
    c.deal_in_turn.ensures.dealt

each : {A E : Type 0} {P Q : A → Type 0} (r : Result A E) → ((a : A) → P a → Q a) → IfOk r P → IfOk r Q
each (Ok a) then p = then a p
each (Err e) then p = tt

pub returns-clause-first : goal.returns-clause-first
returns-clause-first g c = each c.deal_in_turn.result
    (least_sorted c.args.events.items c.sort_unstable_by_key.new.self.items c.sort_unstable_by_key.ensures.permutation)
    c.deal_in_turn.ensures.first
