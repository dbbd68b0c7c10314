use Rattle.std.proofs.Common.{rules}
use Rattle.chord_trace.proofs.tally.Tally.new.Goals as goal

pub returns : goal.returns
returns c = search rules
