use Rattle.std.proofs.Common.{◌≡◌, ◌+◌, drop, find, nat_lt}
use Rattle.chord_scenario.specs.Rows.{rows_of}
use Rattle.chord_scenario.specs.Faults.{latency_by_rows}
use Rattle.chord_scenario.proofs.window_check.near_after.Given as goal

-- the first of the nodes left is that of all
abbrev pub invariant-loop-j : goal.invariant-loop-j
invariant-loop-j l =
    find (λ y. nat_lt (latency_by_rows l.by.default (rows_of l.rows.text.now) l.node y) l.by.window) (drop l.j l.nodes)
    ≡ find (λ y. nat_lt (latency_by_rows l.by.default (rows_of l.rows.text.now) l.node y) l.by.window) (drop (l.i + 1) l.nodes)
