use Rattle.std.proofs.Common.{◌≡◌, ◌++◌, length}
use Rattle.des_parts.specs.Worlds.{events_of}
use Rattle.des_redivide.proofs.events.move_events.Given as goal

abbrev pub invariant-loop-event : goal.invariant-loop-event
invariant-loop-event g l = l.list.items ++ l.part.later ≡ l.fn.list.items ++ events_of l.fn.part

abbrev pub decreases-loop-event : goal.decreases-loop-event
decreases-loop-event g l = length l.part.later
