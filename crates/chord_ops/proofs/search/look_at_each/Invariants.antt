use Rattle.std.proofs.Common.{◌≡◌, take}
use Rattle.std.specs.List.{fold}
use Rattle.chord_ops.specs.Search.{IsSeen, visited}
use Rattle.chord_ops.proofs.search.look_at_each.Given as goal

abbrev pub invariant-loop-node : goal.invariant-loop-node
invariant-loop-node l =
    (l.so_far.closest ≡ fold (visited l.scenario l.way.me l.way.key l.avoid) l.fn.seen.closest (take l.node-index l.nodes))
    × IsSeen l.scenario l.way l.so_far
