use Rattle.std.proofs.Common.{◌≡◌, count_by}
use Rattle.std.specs.List.{range_with_len}
use Rattle.chord_audit.specs.Tables.{is_marked}
use Rattle.chord_audit.proofs.facts.count_marked.Given as goal

abbrev pub invariant-loop-node : goal.invariant-loop-node
invariant-loop-node l = l.count ≡ count_by (is_marked l.marks) (range_with_len 0 l.node)
