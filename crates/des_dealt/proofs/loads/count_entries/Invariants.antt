use Rattle.std.proofs.Common.{◌≡◌, ℕ, ◌+◌, drop, get_or, length}
use Rattle.des_dealt.specs.Loads.{events_of}
use Rattle.des_dealt.proofs.loads.count_entries.Given as goal

abbrev pub invariant-loop-entry : goal.invariant-loop-entry
invariant-loop-entry g l = record {
  long : length l.loads.items ≡ length l.initial.loads.items;
  counted : (node : ℕ) → get_or l.loads.items node 0 + events_of node (drop l.entry-index l.entries) ≡ get_or l.initial.loads.items node 0 + events_of node l.entries;
}
