-- The two texts that the readers of a simulation have left, if these are known.
use Rattle.std.specs.Io.KnownBytes.{Consumes}
use Rattle.std.specs.Prelude.{◌≡◌, ℕ, ◌+◌, ◌<◌, ◌≤◌, List, length, Option, Some, IfSome}
use Rattle.chord_scenario.specs.declared.fault.ScenarioFault.{ScenarioFault}
use Rattle.chord_scenario.specs.declared.scenario.Scenario.{Scenario}
use Rattle.chord_scenario.specs.Accepted.{Accepts}
use Rattle.chord_scenario.specs.Faults.{scenario_fault}

-- the most bytes of an input file
abbrev pub most_bytes : ℕ
most_bytes = 16777216

-- the text is longer than an input file may be
abbrev pub IsTooLong : Option (List ℕ) → Type 0
IsTooLong text = IfSome text (λ bytes. most_bytes < length bytes)

-- the text is not longer than an input file may be
abbrev pub IsShort : Option (List ℕ) → Type 0
IsShort text = IfSome text (λ bytes. length bytes ≤ most_bytes)

-- a text that is too long was read one byte beyond the limit, and no further
pub record IsCutOff (old new : Option (List ℕ)) : Type 0 where
  pub long : IsTooLong old
  pub taken : List ℕ
  pub consumed : Consumes old new taken
  pub one_beyond : length taken ≡ most_bytes + 1

-- a fact of two texts, which says nothing if one of them is not known
abbrev pub IfBothKnown : (scenario latency : Option (List ℕ)) → ((toml csv : List ℕ) → Type 0) → Type 0
IfBothKnown scenario latency Holds = (toml csv : List ℕ) → scenario ≡ Some toml → latency ≡ Some csv → Holds toml csv

-- the two texts give this scenario
abbrev pub Gives : (scenario latency : Option (List ℕ)) → Scenario → Type 0
Gives scenario latency sc = IfBothKnown scenario latency (λ toml csv. Accepts toml csv sc)

-- the two texts give no scenario, for this reason
abbrev pub Lacks : (scenario latency : Option (List ℕ)) → ScenarioFault → Type 0
Lacks scenario latency fault = IfBothKnown scenario latency (λ toml csv. scenario_fault toml csv ≡ Some fault)
