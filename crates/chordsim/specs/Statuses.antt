-- The status that the program ends with.
use Rattle.std.specs.Prelude.{◌≡◌, ◌⊎◌, ℕ, Result, Ok, Err}
use Rattle.clap.specs.Words.{kind_of}
use Rattle.clap.specs.declared.error.kind.ErrorKind.{ErrorKind}
use Rattle.clap.specs.declared.error.kind.ErrorKind.TheVariants as kind
use Rattle.chord_play.specs.declared.fault.PlayFault.{PlayFault}
use Rattle.chord_play.specs.declared.fault.PlayFault.TheVariants as fault
use Rattle.chord_command.specs.declared.words.WordFault.{WordFault}
use Rattle.chord_command.specs.declared.words.WordFault.TheVariants as word

-- the exit status for a fault
abbrev pub status_of : PlayFault → ℕ
status_of (fault.Run error) = 3
status_of (fault.Scenario fault) = 1
status_of (fault.Read text) = 1
status_of (fault.TooLong text) = 1

-- the exit status for a result: 0 if the order was carried out, and otherwise that for the fault
abbrev pub status_of_outcome : {A : Type 0} → Result A PlayFault → ℕ
status_of_outcome (Ok done) = 0
status_of_outcome (Err fault) = status_of fault

-- the arguments ask for a text: with `--help` or `--version`
abbrev pub IsShown : WordFault → Type 0
IsShown (word.Refused error) = (kind_of error ≡ kind.DisplayHelp) ⊎ (kind_of error ≡ kind.DisplayVersion)
IsShown word.NotText = ⊥
IsShown word.Memory = ⊥

-- the status for what clap returns in place of an order
abbrev pub status_of_kind : ErrorKind → ℕ
status_of_kind kind.DisplayHelp = 0
status_of_kind kind.DisplayVersion = 0
status_of_kind other = 2

-- the status for arguments that give no order
abbrev pub status_of_words : WordFault → ℕ
status_of_words (word.Refused error) = status_of_kind (kind_of error)
status_of_words word.NotText = 2
status_of_words word.Memory = 3
