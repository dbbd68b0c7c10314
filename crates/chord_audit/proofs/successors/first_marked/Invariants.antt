use Rattle.std.proofs.Common.{◌≡◌, drop, find}
use Rattle.chord_audit.specs.Tables.{is_marked}
use Rattle.chord_audit.proofs.successors.first_marked.Given as goal

abbrev pub invariant-loop-node : goal.invariant-loop-node
invariant-loop-node l = find (is_marked l.marks) (drop l.node-index l.list) ≡ find (is_marked l.marks) l.list
