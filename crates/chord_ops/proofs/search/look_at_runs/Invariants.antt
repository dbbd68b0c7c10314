use Rattle.std.proofs.Common.{◌≡◌, take}
use Rattle.std.specs.List.{fold}
use Rattle.chord_node.specs.Fingers.{expanded}
use Rattle.chord_ops.specs.Search.{IsSeen, visited}
use Rattle.chord_ops.proofs.search.look_at_runs.Given as goal

abbrev pub invariant-loop-run : goal.invariant-loop-run
invariant-loop-run l =
    (l.so_far.closest ≡ fold (visited l.scenario l.way.me l.way.key l.avoid) l.fn.seen.closest (expanded (take l.run-index l.runs)))
    × IsSeen l.scenario l.way l.so_far
