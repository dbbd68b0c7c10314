-- A machine, and how its runs are written down.
use Rattle.std.specs.Prelude.{ℕ, List}
use Rattle.des_model.specs.Machine.{Machine}

-- a machine, the text of a piece, and which pieces a scribe has counted
pub record Chronicle (State Body Piece S : Type 0) : Type 1 where
  pub machine : Machine State Body Piece
  pub text : Piece → List ℕ
  pub HasCounted : List Piece → S → Type 0

-- a machine together with the text of each piece, and a predicate that says which pieces a scribe has counted
abbrev pub chronicle : {State Body Piece S : Type 0} → Machine State Body Piece → (Piece → List ℕ) → (List Piece → S → Type 0) → Chronicle State Body Piece S
chronicle m text HasCounted = record { machine = m; text = text; HasCounted = HasCounted }
