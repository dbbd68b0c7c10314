-- What a run leaves in a scribe, which is whatever writes the pieces of a run down.
-- `Adds old new pieces` says that these pieces went in between two states of the scribe, and `Fronts old new pieces` that a
-- beginning of them did. `Tells pieces report` says that the report is that of these pieces.
use Rattle.std.specs.Prelude.{ℕ, ◌≡◌, ◌≤◌, List, [], ◌++◌, map, length, None, Result, Err, IfOk, OnOk, nat_le}
use Rattle.std.specs.List.{filter}
use Rattle.des_event.specs.declared.error.RunError.{RunError}
use Rattle.des_event.specs.declared.error.RunError.TheVariants as run
use Rattle.des_model.specs.Histories.{IsOverLimit, full_history, history, next, open_audits, output, trace}
use Rattle.des_model.specs.Machine.{Machine}

-- the laws of a scribe
pub record AreLaws {S Piece : Type 0} (Adds Fronts : S → S → List Piece → Type 0) : Type 0 where
  -- nothing has gone in if nothing has changed, and pieces that go in one after another go in together
  pub adds_none : (a : S) → Adds a a []
  pub adds_then : (a b c : S) (xs ys : List Piece) → Adds a b xs → Adds b c ys → Adds a c (xs ++ ys)
  -- a beginning of some pieces went in if all of them did, if some did and then a beginning of the others, and if it is a
  -- beginning of the first of them
  pub fronts_whole : (a b : S) (xs : List Piece) → Adds a b xs → Fronts a b xs
  pub fronts_then : (a b c : S) (xs ys : List Piece) → Adds a b xs → Fronts b c ys → Fronts a c (xs ++ ys)
  pub fronts_longer : (a b : S) (xs ys : List Piece) → Fronts a b xs → Fronts a b (xs ++ ys)

-- of these times those that have come
abbrev pub due : (time : ℕ) → List ℕ → List ℕ
due time times = filter (λ t. nat_le t time) times

module _ {State Body Piece : Type 0} (m : Machine State Body Piece) where
  -- the audits of these times, of nodes in these states
  abbrev pub audits_at : (ℕ → State) → List ℕ → List Piece
  audits_at account times = map (λ t. m.audit t account) times

  -- the trace of the whole run
  abbrev pub whole_trace : List Piece
  whole_trace = trace m (full_history m)

  -- what went in is a beginning of the trace of some first events
  abbrev pub IsBeginningBy : {S : Type 0} → (Fronts : S → S → List Piece → Type 0) → (old now : S) → Type 0
  IsBeginningBy Fronts old now = (events : ℕ) × Fronts old now (trace m (history m events))

  -- A run of the machine, by whatever engine, into whatever scribe: the whole trace and the report, or an error and a
  -- beginning of the trace.
  pub record IsRunBy {S Report : Type 0} (Adds Fronts : S → S → List Piece → Type 0) (Tells : List Piece → Report → Type 0) (old new : S)
      (result : Result Report RunError) : Type 0 where
    pub trace : OnOk result (Adds old new whole_trace)
    pub report : IfOk result (Tells whole_trace)
    pub within : OnOk result (IsOverLimit m → ⊥)
    pub over : result ≡ Err run.TooManyEvents → IsOverLimit m
    pub beginning : IsBeginningBy Fronts old new

  -- The run has come to its end: no event may follow the first `count`. What they output went in, and of the audits these
  -- are still open.
  pub record IsAtEnd {S : Type 0} (Adds : S → S → List Piece → Type 0) (old now : S) (count : ℕ) (clock : List ℕ) : Type 0 where
    pub long : length (history m count) ≡ count
    pub within : count ≤ m.max_events
    pub ended : next m (history m count) ≡ None
    pub audits : clock ≡ open_audits m (history m count)
    pub put : Adds old now (output m (history m count))
