use Rattle.std.proofs.Common.{◌∙◌, ◌^◌, sym}
use Rattle.std.proofs.Math.Pow.{pow_mono}
use Rattle.chord_judge.proofs.NumberLemmas.{none_below}
use Rattle.chord_judge.proofs.lines.LineReader.key.Goals as goal

pub returns-in-None : goal.returns-in-None
returns-in-None c =
    sym (
    none_below (2 ^ c.args.self.now.scenario.now.bits) (2 ^ 128) c.args.text.now (pow_mono c.recall_range.ensures.numbers.bits_greatest)
    (sym c.number_in.ensures ∙ c.in-None.is))
