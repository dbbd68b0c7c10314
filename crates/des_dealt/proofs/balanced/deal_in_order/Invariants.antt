use Rattle.std.proofs.Common.{◌≡◌, ◌<◌, length}
use Rattle.std.specs.BinaryHeap.{heap_items, heap_len}
use Rattle.std.specs.List.{All}
use Rattle.des_dealt.proofs.balanced.deal_in_order.Given as goal

abbrev pub invariant-loop-next : goal.invariant-loop-next
invariant-loop-next l = record {
  long : length l.of_node.items ≡ length l.order;
  below : All (λ p. p < l.parts) l.of_node.items;
  many : heap_len l.least ≡ l.parts;
  parts : All (λ p. p.0.part < l.parts) (heap_items l.least);
}
