use Rattle.std.proofs.Common.{arith, ap, ◌∙◌, []}
use Rattle.std.specs.List.{concat}
use Rattle.std.proofs.lemmas.Simd.{pick_l_whole}
use Rattle.rand_chacha.specs.Block.{column_round, diagonal_round}
use Rattle.des_stream.proofs.Rows.{back, diagonals, words_back}
use Rattle.des_stream.proofs.block.double_round.Goals as goal

pub returns-clause-value : goal.returns-clause-value
returns-clause-value c =
    back c.mix_columns-2.result (record { rows = omega arith; lanes = c.mix_columns-2.ensures.long })
    ∙ ap words_back c.mix_columns-2.ensures.value
    ∙ diagonals c.mix_columns.result (record { rows = omega arith; lanes = c.mix_columns.ensures.long })
    ∙ ap diagonal_round c.mix_columns.ensures.value
    ∙ ap (λ rows. diagonal_round (column_round (concat rows))) (pick_l_whole [] c.args.rows 4 (omega arith))
