use Rattle.std.proofs.Common.{◌≡◌, map, take, option_and_then}
use Rattle.chord_audit.specs.Tables.{node_at}
use Rattle.chord_audit.proofs.ring.twice.Given as goal

abbrev pub invariant-loop-way : goal.invariant-loop-way
invariant-loop-way l = l.twice.items ≡ map (option_and_then (node_at l.steps)) (take l.way-index l.steps)
