use Rattle.std.proofs.Common.{arith, [], ◌∷◌}
use Rattle.des_stream.proofs.Rows.{square, mixes, mixes_long}
use Rattle.des_stream.proofs.block.mix_columns.Goals as goal

pub returns-clause-value : goal.returns-clause-value
returns-clause-value c =
    rw (c.stir.ensures, c.stir-d-2.ensures, c.stir-b.ensures, c.stir-d.ensures)
    (mixes (c.args.a ∷ c.args.b ∷ c.args.c ∷ c.args.d ∷ [])
    (square c.args.a c.args.b c.args.c c.args.d (omega arith) (omega arith) (omega arith) (omega arith)))

pub returns-clause-long : goal.returns-clause-long
returns-clause-long c =
    rw (c.stir.ensures, c.stir-d-2.ensures, c.stir-b.ensures, c.stir-d.ensures)
    (mixes_long (c.args.a ∷ c.args.b ∷ c.args.c ∷ c.args.d ∷ [])
    (square c.args.a c.args.b c.args.c c.args.d (omega arith) (omega arith) (omega arith) (omega arith)))
