use Rattle.std.proofs.Common.{◌≡◌, filter}
use Rattle.std.specs.List.{range_with_len}
use Rattle.chord_scenario.specs.Settings.{is_bootstrap}
use Rattle.chord_scenario.proofs.node.bootstraps.Given as goal

abbrev pub invariant-loop-node : goal.invariant-loop-node
invariant-loop-node l = l.bootstraps.items ≡ filter (is_bootstrap l.nodes) (range_with_len 0 l.node)
