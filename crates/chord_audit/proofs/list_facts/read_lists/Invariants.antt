use Rattle.std.proofs.Common.{◌≡◌, ◌≤◌, ◌<◌, ◌-◌, ℕ, find, length, map, take}
use Rattle.std.specs.List.{list_any, range_with_len}
use Rattle.chord_audit.specs.Tables.{covers, is_marked, is_passing}
use Rattle.chord_audit.proofs.list_facts.read_lists.Given as goal

abbrev pub invariant-loop-best : goal.invariant-loop-best
invariant-loop-best g l = record {
  within : length l.best.items ≤ length l.order.ranks.now;
  best : l.best.items ≡ map (λ state. find (is_marked l.members) state.succ) (take (length l.best.items) (g.V.States.list l.states));
  each : length l.arcs.far.items ≡ length l.order.ranks.now;
  covered : (k : ℕ) → k < length l.order.ranks.now → covers l.arcs k
      ≡ list_any (is_passing l.order.ranks.now l.members (g.V.States.list l.states) k) (range_with_len 0 (length l.best.items));
}

abbrev pub decreases-loop-best : goal.decreases-loop-best
decreases-loop-best g l = length l.order.ranks.now - length l.best.items
