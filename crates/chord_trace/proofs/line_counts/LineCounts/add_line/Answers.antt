use Rattle.std.proofs.Common.{rules}
use Rattle.chord_trace.proofs.line_counts.LineCounts.add_line.Goals as goal

pub returns-in-Lost : goal.returns-in-Lost
returns-in-Lost c = search rules
