-- Runs, from what their last steps leave.
use Rattle.std.proofs.Common.{◌≡◌, ◌⊎◌, ◌++◌, ℕ, List, Option, Result, Err}
use Rattle.des_event.specs.declared.error.RunError.{RunError}
use Rattle.des_event.specs.declared.error.RunError.TheVariants as run
use Rattle.des_machine.specs.Runs.{IsBeginning, IsRun, Writes, WritesFront}
use Rattle.des_machine.proofs.Puts.{writer_laws}
use Rattle.des_model.specs.Histories.{IsOverLimit, history, output}
use Rattle.des_model.specs.Machine.{Machine}
use Rattle.des_model.proofs.Ends.{begins_here, begins_next, begins_with_nothing, run_failed as failed_run, run_stopped as stopped_run}

module _ {State Body Piece : Type 0} (text : Piece → List ℕ) (m : Machine State Body Piece) where
  -- what was written of the first events is the beginning of a trace
  pub begun_at : (old now : Option (List ℕ)) (count : ℕ) → Writes text old now (output m (history m count)) → IsBeginning text m old now
  begun_at = begins_here m (Writes text) (WritesFront text) (writer_laws text)

  -- and so is the front of what the next events output, after that
  pub begun_next : (old now new : Option (List ℕ)) (count more : ℕ) (pieces : List Piece) → Writes text old now (output m (history m count))
      → output m (history m more) ≡ output m (history m count) ++ pieces → WritesFront text now new pieces → IsBeginning text m old new
  begun_next = begins_next m (Writes text) (WritesFront text) (writer_laws text)

  module _ {Report : Type 0} (IsReport : List Piece → Report → Type 0) where
    -- an error ended the run
    pub run_stopped : (old new : Option (List ℕ)) (result : Result Report RunError) (e : RunError) → result ≡ Err e → (e ≡ run.TooManyEvents → IsOverLimit m)
        → IsBeginning text m old new → IsRun text m IsReport old new result
    run_stopped = stopped_run m (Writes text) (WritesFront text) IsReport

    -- a failed writer or a failed allocation ended it
    pub run_failed : (old new : Option (List ℕ)) (result : Result Report RunError) (e : RunError) → result ≡ Err e → (e ≡ run.Memory) ⊎ (e ≡ run.Write)
        → IsBeginning text m old new → IsRun text m IsReport old new result
    run_failed = failed_run m (Writes text) (WritesFront text) IsReport

    -- an error ended it before anything was written
    pub run_refused : (old : Option (List ℕ)) (result : Result Report RunError) (e : RunError) → result ≡ Err e → (e ≡ run.TooManyEvents → IsOverLimit m)
        → IsRun text m IsReport old old result
    run_refused old result e is over = run_stopped old old result e is over (begins_with_nothing m (Writes text) (WritesFront text) (writer_laws text) old)
