use Rattle.std.proofs.Common.{◌≡◌, ◌&&◌, count_by, not}
use Rattle.std.specs.List.{range_with_len}
use Rattle.chord_audit.specs.Tables.{is_marked, is_marked_rank}
use Rattle.chord_audit.proofs.facts.count_principals.Given as goal

abbrev pub invariant-loop-node : goal.invariant-loop-node
invariant-loop-node l = l.count ≡ count_by (λ n. is_marked l.members n && not (is_marked_rank l.ranks l.passed n)) (range_with_len 0 l.node)
