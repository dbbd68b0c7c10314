use Rattle.std.proofs.Common.{◌≡◌, ◌<◌}
use Rattle.std.specs.BinaryHeap.{heap_items, heap_len}
use Rattle.std.specs.List.{All}
use Rattle.des_dealt.proofs.balanced.empty_parts.Given as goal

abbrev pub invariant-loop-part : goal.invariant-loop-part
invariant-loop-part l = record {
  many : heap_len l.heap ≡ l.part;
  below : All (λ p. p.0.part < l.parts) (heap_items l.heap);
}
