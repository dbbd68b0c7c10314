use Rattle.std.proofs.Common.{◌≡◌, ◌==◌, ◌++◌, drop, map}
use Rattle.std.specs.Prelude.{if◌then◌else◌}
use Rattle.chord_node.specs.Fingers.{expanded}
use Rattle.chord_node.proofs.fingers.push_replaced.Given as goal

abbrev pub invariant-loop-run : goal.invariant-loop-run
invariant-loop-run l =
    expanded l.runs.items ++ map (λ n. if n == l.old then l.new else n) (expanded (drop l.run-index l.others))
    ≡ expanded l.initial.runs.items ++ map (λ n. if n == l.old then l.new else n) (expanded l.others)
