use Rattle.std.proofs.Common.{◌≡◌, take}
use Rattle.chord_trace.specs.Counts.{counts_in, plus}
use Rattle.chord_trace.proofs.line_counts.LineCounts.add.Given as goal

abbrev pub invariant-loop-line : goal.invariant-loop-line
invariant-loop-line l = l.self ≡ plus l.initial.self (counts_in (take l.line-index l.lines))
