use Rattle.std.proofs.Common.{arith, ap, ◌∙◌, slice_index, refl}
use Rattle.rand_chacha.specs.Block.{double_rounds, block_word}
use Rattle.des_stream.proofs.Rows.{word_of_sums}
use Rattle.des_stream.proofs.block.block.Goals as goal

pub returns : goal.returns
unfolding block_word double_rounds
returns c k below =
    ap (λ w. slice_index w k) c.words.ensures
    ∙ word_of_sums c.double_round-mixed.result c.starting_rows-start.result
    (record { rows = omega arith; lanes = c.double_round-mixed.ensures.long })
    (record { rows = omega arith; lanes = c.starting_rows-start.ensures.long }) k below
    ∙ rw (
      c.double_round-mixed.ensures.value,
      c.double_round-3.ensures.value,
      c.double_round-2.ensures.value,
      c.double_round.ensures.value,
      c.starting_rows-start.ensures.value,
    ) refl
