use Rattle.std.proofs.Common.{◌∙◌, sym}
use Rattle.chord_judge.proofs.NumberLemmas.{read_more, read_no_more}
use Rattle.chord_judge.proofs.words.number_in.Goals as goal

pub returns-in_default : goal.returns-in_default
returns-in_default c =
    sym (
    read_no_more c.args.text.now c.loop-byte.byte-index c.loop-byte.number c.loop-byte-test.true c.loop-byte.invariant (sym c.with_digit.ensures ∙ c.in_default.is))

pub loop-byte-preserved : goal.loop-byte-preserved
loop-byte-preserved c =
    read_more c.args.text.now c.loop-byte.byte-index c.loop-byte.number c.in-Some.next c.loop-byte-test.true c.loop-byte.invariant
    (sym c.with_digit.ensures ∙ c.in-Some.is)
