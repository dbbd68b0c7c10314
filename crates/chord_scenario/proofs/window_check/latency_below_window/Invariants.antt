use Rattle.std.proofs.Common.{◌≡◌, drop, nat_lt}
use Rattle.chord_scenario.specs.Search.{first_meeting}
use Rattle.chord_scenario.specs.Rows.{rows_of}
use Rattle.chord_scenario.specs.Faults.{latency_by_rows}
use Rattle.chord_scenario.proofs.window_check.latency_below_window.Given as goal

-- the first two of the nodes left are those of all
abbrev pub invariant-loop-i : goal.invariant-loop-i
invariant-loop-i l =
    first_meeting (λ x y. nat_lt (latency_by_rows l.default (rows_of l.rows.text.now) x y) l.window) (drop l.i l.nodes)
    ≡ first_meeting (λ x y. nat_lt (latency_by_rows l.default (rows_of l.rows.text.now) x y) l.window) l.nodes
