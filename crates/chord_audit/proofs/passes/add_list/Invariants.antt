use Rattle.std.proofs.Common.{◌≡◌, ℕ, ◌<◌, ◌||◌, length, drop}
use Rattle.chord_audit.specs.Tables.{covers, is_inside_list}
use Rattle.chord_audit.proofs.Reaches.{is_inside_from}
use Rattle.chord_audit.proofs.passes.add_list.Given as goal

abbrev pub invariant-loop-node : goal.invariant-loop-node
invariant-loop-node l = record {
  each : length l.arcs.far.items ≡ length l.initial.arcs.far.items;
  low : l.from < length l.initial.arcs.far.items;
  covered : (k : ℕ) → k < length l.initial.arcs.far.items
      → (covers l.arcs k || is_inside_from l.order.ranks.now k l.from (drop l.node-index l.list))
      ≡ (covers l.initial.arcs k || is_inside_list l.order.ranks.now k l.leader l.list);
}
