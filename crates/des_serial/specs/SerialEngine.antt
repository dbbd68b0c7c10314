-- Where an engine has come to.
use Rattle.std.specs.Prelude.{◌≡◌, ℕ, ◌<◌, ◌≤◌, List, [], ◌∷◌, Option}
use Rattle.des_event.specs.declared.event.Event.{Event}
use Rattle.des_machine.specs.Runs.{Writes}
use Rattle.des_model.specs.Histories.{history, open_audits, output}
use Rattle.des_model.specs.Machine.{Machine}
use Rattle.des_model.specs.Worlds.{IsFirstAt, IsWorld}
use Rattle.des_serial.specs.declared.engine.SerialEngine.{SerialEngine}

-- an engine for the type M of machines, with scribes of the type S
module _ {M S State Body Piece : Type 0} (text : Piece → List ℕ) (m : Machine State Body Piece) (HasCounted : List Piece → S → Type 0) where
  -- the engine, with these events still to come, is where the first `e.count` events of the run leave it, and what they
  -- output has gone to the writer, which held the old bytes at the start
  pub record IsAtWith (old now : Option (List ℕ)) (e : SerialEngine M S State Body Piece) (events : List (Event Body)) : Type 0 where
    pub world : IsWorld m e.states.items events e.count
    pub audits : e.journal.clock ≡ open_audits m (history m e.count)
    pub written : Writes text old now (output m (history m e.count))
    pub counted : HasCounted (output m (history m e.count)) e.journal.scribe
    pub within : e.count ≤ m.max_events
    pub none_made : e.made.items ≡ []

  -- the engine, with the events that it keeps still to come, is where the first `e.count` events of the run leave it
  abbrev pub IsAt : (old now : Option (List ℕ)) → SerialEngine M S State Body Piece → Type 0
  IsAt old now e = IsAtWith old now e e.pending

  -- the engine, with the events that it keeps and this one still to come, is where the first `e.count` events of the
  -- run leave it; this event is the next one and has been taken out
  pub record HasTaken (old now : Option (List ℕ)) (e : SerialEngine M S State Body Piece) (event : Event Body) : Type 0 where
    pub at : IsAtWith old now e (event ∷ e.pending)
    pub next : IsFirstAt (event ∷ e.pending) m.duration 0
    pub allowed : e.count < m.max_events
