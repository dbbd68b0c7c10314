use Rattle.std.proofs.Common.{◌≡◌, ◌+◌, drop, find}
use Rattle.std.specs.List.{enumerate_from}
use Rattle.chord_scenario.specs.Latencies.{keeps_bad_row}
use Rattle.chord_scenario.proofs.link_check.bad_in_rows.Given as goal

-- the first of the rows left is that of all
abbrev pub invariant-loop-i : goal.invariant-loop-i
invariant-loop-i l = find (λ p. keeps_bad_row p.1) (enumerate_from (l.i + 1) (drop l.i l.rows)) ≡ find (λ p. keeps_bad_row p.1) (enumerate_from 1 l.rows)
