use Rattle.std.proofs.Common.{◌≡◌, [], take, drop}
use Rattle.chord_scenario.specs.Rows.{name_one_pair, rows_of}
use Rattle.chord_scenario.specs.Search.{first_repeat}
use Rattle.chord_scenario.specs.Latencies.{HasLatencies}
use Rattle.chord_scenario.proofs.latency.latencies.Given as goal

-- the square has the rows so far, and the first repeat among the rows left is that of all
abbrev pub invariant-loop-i : goal.invariant-loop-i
invariant-loop-i l = record {
  has : HasLatencies l.rows.names.nodes.now (take l.i (rows_of l.rows.text.now)) l.cells.items;
  first : first_repeat name_one_pair (take l.i (rows_of l.rows.text.now)) (drop l.i (rows_of l.rows.text.now))
      ≡ first_repeat name_one_pair [] (rows_of l.rows.text.now);
}
