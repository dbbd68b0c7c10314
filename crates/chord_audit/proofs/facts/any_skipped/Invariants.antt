use Rattle.std.proofs.Common.{◌≡◌, ◌&&◌, false}
use Rattle.std.specs.List.{list_any, range_with_len}
use Rattle.chord_audit.specs.Tables.{is_marked, is_marked_rank}
use Rattle.chord_audit.proofs.facts.any_skipped.Given as goal

abbrev pub invariant-loop-node : goal.invariant-loop-node
invariant-loop-node l = list_any (λ n. is_marked l.ring n && is_marked_rank l.ranks l.skipped n) (range_with_len 0 l.node) ≡ false
