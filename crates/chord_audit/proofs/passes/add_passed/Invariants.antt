use Rattle.std.proofs.Common.{◌≡◌, ℕ, ◌<◌, length}
use Rattle.std.specs.List.{list_any, range_with_len}
use Rattle.chord_audit.specs.Tables.{covers, is_passing}
use Rattle.chord_audit.proofs.passes.add_passed.Given as goal

abbrev pub invariant-loop-node : goal.invariant-loop-node
invariant-loop-node g l = record {
  each : length l.arcs.far.items ≡ length l.order.ranks.now;
  covered : (k : ℕ) → k < length l.order.ranks.now → covers l.arcs k ≡ list_any (is_passing l.order.ranks.now l.marks (g.V.States.list l.states) k) (range_with_len 0 l.node);
}
