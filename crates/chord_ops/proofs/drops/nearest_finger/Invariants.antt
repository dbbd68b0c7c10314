use Rattle.std.proofs.Common.{◌≡◌, ◌==◌, ◌&&◌, ◌<◌, None, not, take}
use Rattle.std.specs.List.{filter, fold}
use Rattle.std.specs.Prelude.{IfSome}
use Rattle.chord_node.specs.Fingers.{expanded}
use Rattle.chord_scenario.specs.World.{node_count}
use Rattle.chord_ops.specs.Rules.{nearer}
use Rattle.chord_ops.proofs.drops.nearest_finger.Given as goal

abbrev pub invariant-loop-run : goal.invariant-loop-run
invariant-loop-run l =
    (l.nearest ≡ fold (nearer l.scenario l.state.me) None (filter (λ x. not (x == l.state.me) && not (x == l.silent)) (expanded (take l.run-index l.run-items))))
    × IfSome l.nearest (λ node. node < node_count l.scenario)
