use Rattle.chord_judge.proofs.ReadTraces.{trace_readable}
use Rattle.chord_judge.proofs.laws.traces_are_readable.Goals as goal

pub returns : goal.returns
returns c = λ sc range. trace_readable sc range.numbers.bits_greatest
