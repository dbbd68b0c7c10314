use Rattle.std.proofs.Common.{◌↔◌, ◌++◌, vec_len}
use Rattle.std.specs.List.{Contains}
use Rattle.des_event.specs.declared.event.Event.{Event}
use Rattle.des_queue.proofs.Inserting.{AreApart}
use Rattle.des_queue.proofs.pending.Pending.move_all.Given as goal

abbrev pub invariant-loop-last : goal.invariant-loop-last
invariant-loop-last g l = record {
  apart : AreApart (l.self ++ l.events.items);
  same : (x : Event _) → Contains (l.self ++ l.events.items) x ↔ Contains (l.initial.self ++ l.initial.events.items) x;
}

abbrev pub decreases-loop-last : goal.decreases-loop-last
decreases-loop-last g l = vec_len l.events
