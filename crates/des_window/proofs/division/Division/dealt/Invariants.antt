use Rattle.std.proofs.Common.{◌≡◌, ◌<◌, map}
use Rattle.std.specs.List.{All, range_with_len}
use Rattle.des_window.specs.Divisions.{dealt_part}
use Rattle.des_window.proofs.division.Division.dealt.Given as goal

abbrev pub invariant-loop-node : goal.invariant-loop-node
invariant-loop-node l = record {
  items : l.of_node.items ≡ map (dealt_part l.parts) (range_with_len 0 l.node);
  below : All (λ p. p < l.parts) l.of_node.items;
}
