-- How the two texts were read, and why they give no scenario.
use Rattle.std.specs.Prelude.{◌≡◌, ◌≢◌, ◌⊎◌, ℕ, Bool, false, true, List, Option}
use Rattle.chord_play.specs.declared.fault.PlayFault.{PlayFault}
use Rattle.chord_play.specs.declared.fault.PlayFault.TheVariants as fault
use Rattle.chord_plan.specs.declared.text.Text.TheVariants as text
use Rattle.des_event.specs.declared.error.RunError.TheVariants as run
use Rattle.chord_play.specs.Texts.{IsCutOff, IsShort, Lacks}
use Rattle.chord_scenario.specs.declared.fault.ScenarioFault.TheVariants as reason
use Rattle.des_output.specs.declared.watched.Watched.{Watched}
use Rattle.des_output.specs.Watched.{has_failed, wrapped}

-- a watched reader at two moments, and what is known of the bytes that a reader has left
pub record Reading (R : Type 0) : Type 0 where
  pub remaining : R → Option (List ℕ)
  pub old : Watched R
  pub new : Watched R

-- a watched reader at two moments, together with what is known of the bytes that such a reader has left
abbrev pub reading : {R : Type 0} → (R → Option (List ℕ)) → (old new : Watched R) → Reading R
reading remaining old new = record { remaining = remaining; old = old; new = new }

-- the text that the reader had at the first moment
abbrev pub text_of : {R : Type 0} → Reading R → Option (List ℕ)
text_of r = r.remaining (wrapped r.old)

-- what the reader has left of its text at the second moment
abbrev pub left_of : {R : Type 0} → Reading R → Option (List ℕ)
left_of r = r.remaining (wrapped r.new)

-- none of the reader's calls failed
abbrev pub IsSound : {R : Type 0} → Reading R → Type 0
IsSound r = has_failed r.new ≡ false

-- one of the reader's calls failed
abbrev pub HasFailed : {R : Type 0} → Reading R → Type 0
HasFailed r = has_failed r.new ≡ true

-- no call of the reader was made between the two moments
abbrev pub IsUntouched : {R : Type 0} → Reading R → Type 0
IsUntouched r = r.new ≡ r.old

-- the text was read, and is not too long
abbrev pub WasRead : {R : Type 0} → Reading R → Type 0
WasRead r = IsSound r × IsShort (text_of r)

-- the text is too long, and was read one byte beyond the limit
abbrev pub WasCutOff : {R : Type 0} → Reading R → Type 0
WasCutOff r = IsCutOff (text_of r) (left_of r)

-- The fault is that of one of the two texts, as they were read: the scenario text first, and then the latency text. At an
-- error of the run both texts were read, and neither is too long; only if memory was refused may one be read in part.
abbrev pub IsFaultOf : {R Q : Type 0} → (scenario : Reading R) (latency : Reading Q) → PlayFault → Type 0
IsFaultOf scenario latency (fault.Read text.Scenario) = HasFailed scenario × IsUntouched latency
IsFaultOf scenario latency (fault.Read text.Latency) = WasRead scenario × HasFailed latency
IsFaultOf scenario latency (fault.TooLong text.Scenario) = WasCutOff scenario × IsUntouched latency
IsFaultOf scenario latency (fault.TooLong text.Latency) = WasRead scenario × WasCutOff latency
IsFaultOf scenario latency (fault.Scenario e) =
    (e ≢ reason.Memory) × WasRead scenario × WasRead latency × Lacks (text_of scenario) (text_of latency) e
IsFaultOf scenario latency (fault.Run error) =
    ((error ≡ run.Memory) × IsSound scenario × IsSound latency) ⊎ (WasRead scenario × WasRead latency)
