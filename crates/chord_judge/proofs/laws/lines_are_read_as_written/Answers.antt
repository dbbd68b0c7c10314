use Rattle.chord_judge.proofs.ReadBack.{read_back}
use Rattle.chord_judge.proofs.laws.lines_are_read_as_written.Goals as goal

pub returns : goal.returns
returns c = λ sc range. read_back sc range.numbers.bits_greatest
