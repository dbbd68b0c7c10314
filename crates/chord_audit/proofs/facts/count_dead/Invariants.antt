use Rattle.std.proofs.Common.{◌≡◌, ◌&&◌, count_by, is_none}
use Rattle.std.specs.List.{range_with_len}
use Rattle.chord_audit.specs.Tables.{is_marked, node_at}
use Rattle.chord_audit.proofs.facts.count_dead.Given as goal

abbrev pub invariant-loop-node : goal.invariant-loop-node
invariant-loop-node l = l.count ≡ count_by (λ n. is_marked l.members n && is_none (node_at l.best n)) (range_with_len 0 l.node)
