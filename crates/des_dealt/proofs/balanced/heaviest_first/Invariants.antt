use Rattle.std.proofs.Common.{◌≡◌, ◌<◌, length}
use Rattle.std.specs.List.{All}
use Rattle.des_dealt.proofs.balanced.heaviest_first.Given as goal

abbrev pub invariant-loop-node : goal.invariant-loop-node
invariant-loop-node l = record {
  long : length l.order.items ≡ l.node;
  nodes : All (λ o. o.node < length l.loads) l.order.items;
}
