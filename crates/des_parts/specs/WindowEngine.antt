-- Where a run by windows has come to.
use Rattle.std.specs.Prelude.{◌≡◌, ℕ, List, Option}
use Rattle.des_machine.specs.Runs.{Writes}
use Rattle.des_model.specs.Histories.{history, open_audits, output}
use Rattle.des_model.specs.Machine.{Machine}
use Rattle.des_parts.specs.declared.engine.WindowEngine.{WindowEngine}
use Rattle.des_parts.specs.Worlds.{IsWorldOf}

-- an engine for the type M of machines, with scribes of the type S
module _ {M S State Body Piece : Type 0} (text : Piece → List ℕ) (m : Machine State Body Piece) (HasCounted : List Piece → S → Type 0) where
  -- the engine is where the first `count` events of the run leave it; what they output has gone to the writer, which held
  -- the old bytes at the start, and the scribe has counted it
  pub record IsAt (old now : Option (List ℕ)) (e : WindowEngine M S State Body Piece) : Type 0 where
    pub world : IsWorldOf m e.world
    pub audits : e.journal.clock ≡ open_audits m (history m e.world.count)
    pub written : Writes text old now (output m (history m e.world.count))
    pub counted : HasCounted (output m (history m e.world.count)) e.journal.scribe
