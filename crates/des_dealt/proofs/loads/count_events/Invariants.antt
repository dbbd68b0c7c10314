use Rattle.std.proofs.Common.{◌≡◌, ℕ, ◌+◌, drop, get_or, length}
use Rattle.des_dealt.specs.Loads.{events_at}
use Rattle.des_dealt.proofs.loads.count_events.Given as goal

abbrev pub invariant-loop-done : goal.invariant-loop-done
invariant-loop-done g l = record {
  long : length l.loads.items ≡ length l.initial.loads.items;
  counted : (node : ℕ) → get_or l.loads.items node 0 + events_at node (drop l.done-index l.dones) ≡ get_or l.initial.loads.items node 0 + events_at node l.dones;
}
