use Rattle.std.proofs.Common.{◌∙◌, sym}
use Rattle.des_event.proofs.KeyLists.{from_on_first, from_on_none}
use Rattle.des_queue.specs.EventKey.{event_key}
use Rattle.des_queue.proofs.pending.Pending.split_at.Goals as goal

pub returns-then-time-horizon : goal.returns-then-time-horizon
returns-then-time-horizon g c =
    sym (from_on_first event_key c.args.horizon c.in-Some.time c.loop-time.self c.recall_order.ensures (sym c.in-Some.ensures) c.if-time-horizon.true)
    ∙ c.loop-time.invariant

pub returns-in_default : goal.returns-in_default
returns-in_default g c = sym (from_on_none event_key c.args.horizon c.loop-time.self (sym c.in_default.ensures)) ∙ c.loop-time.invariant
