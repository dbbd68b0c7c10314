-- What every engine promises of a run, of any machine and any scribe.
use Rattle.std.specs.Prelude.{ℕ, List, ◌++◌, Option, Result}
use Rattle.std.specs.Io.KnownBytes.{Appends}
use Rattle.std.specs.List.{flat_map}
use Rattle.des_event.specs.declared.error.RunError.{RunError}
use Rattle.des_model.specs.Machine.{Machine}
use Rattle.des_model.specs.Scribes.{IsBeginningBy, IsRunBy}
use Rattle.des_output.specs.Writing.{AppendsFront}

module _ {Piece : Type 0} (text : Piece → List ℕ) where
  -- the texts of these pieces went to a writer, which held the old bytes
  abbrev pub Writes : (old new : Option (List ℕ)) → List Piece → Type 0
  Writes old new pieces = Appends old new (flat_map text pieces)

  -- a beginning of the texts of these pieces went to a writer, which held the old bytes
  abbrev pub WritesFront : (old new : Option (List ℕ)) → List Piece → Type 0
  WritesFront old new pieces = AppendsFront old new (flat_map text pieces)

  -- the texts of these pieces went to the writer, and a scribe has counted them after what it had counted before
  pub record Adds {S : Type 0} (HasCounted : List Piece → S → Type 0) (old new : Option (List ℕ)) (before after : S) (pieces : List Piece) : Type 0 where
    pub written : Writes old new pieces
    pub counted : (earlier : List Piece) → HasCounted earlier before → HasCounted (earlier ++ pieces) after

  module _ {State Body : Type 0} (m : Machine State Body Piece) where
    -- what the writer took is a beginning of the trace of some first events
    abbrev pub IsBeginning : (old now : Option (List ℕ)) → Type 0
    IsBeginning old now = IsBeginningBy m WritesFront old now

    -- A run, by whatever engine: the whole trace and the report, or an error and a beginning of the trace. The writer held
    -- the old bytes at the start.
    abbrev pub IsRun : {Report : Type 0} → (IsReport : List Piece → Report → Type 0) → (old new : Option (List ℕ)) → Result Report RunError → Type 0
    IsRun IsReport old new result = IsRunBy m Writes WritesFront IsReport old new result
