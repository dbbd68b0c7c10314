use Rattle.chord_judge.proofs.ReadTraces.{trace_judged}
use Rattle.chord_judge.proofs.laws.traces_are_judged_as_written.Goals as goal

pub returns : goal.returns
returns c = λ sc range. trace_judged sc range.numbers.bits_greatest
