-- What is seen of a watched reader or writer.
use Rattle.std.specs.Prelude.{ℕ, Bool, true, not, ◌&&◌, ◌==◌, List, length, Result, Ok, Err}
use Rattle.des_output.specs.declared.watched.Watched.{Watched}

-- the reader or writer inside
abbrev pub wrapped : {V : Type 0} → Watched V → V
wrapped w = w.inner

-- one of the calls of the reader or writer so far returned an error, or a write took no byte of a piece that is not
-- empty
abbrev pub has_failed : {V : Type 0} → Watched V → Bool
has_failed w = w.failed

-- the result of `write(piece)` is an error, or says that no byte was taken of a piece that is not empty
abbrev pub refuses : {E : Type 0} → Result ℕ E → List ℕ → Bool
refuses (Ok count) piece = count == 0 && not (length piece == 0)
refuses (Err e) piece = true
