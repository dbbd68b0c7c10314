use Rattle.std.proofs.Common.{◌≡◌, ◌<◌, ◌^◌, ◌++◌, map}
use Rattle.std.specs.List.{All, range_with_len}
use Rattle.chord_scenario.specs.Settings.{numbered_node}
use Rattle.chord_scenario.proofs.node.push_class.Given as goal

-- the nodes of the numbers so far are added
abbrev pub invariant-loop-number : goal.invariant-loop-number
invariant-loop-number l = record {
  value : l.nodes.items ≡ l.fn.nodes.items ++ map (numbered_node l.circle l.prefix l.flags) (range_with_len 0 l.number);
  on_circle : All (λ n. n.ident < 2 ^ l.circle) l.fn.nodes.items → All (λ n. n.ident < 2 ^ l.circle) l.nodes.items;
}
