use Rattle.std.proofs.Common.{◌≡◌, length}
use Rattle.des_event.specs.KeyOrder.{from_on}
use Rattle.des_queue.specs.EventKey.{event_key}
use Rattle.des_queue.proofs.pending.Pending.split_at.Given as goal

abbrev pub invariant-loop-time : goal.invariant-loop-time
invariant-loop-time g l = from_on event_key l.horizon l.self ≡ from_on event_key l.horizon l.initial.self

abbrev pub decreases-loop-time : goal.decreases-loop-time
decreases-loop-time g l = length l.self
