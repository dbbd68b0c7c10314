-- What a simulation leaves.
use Rattle.std.specs.Prelude.{ℕ, List, Option, Result}
use Rattle.des_event.specs.declared.error.RunError.{RunError}
use Rattle.chord_output.specs.Runs.{IsRun}
use Rattle.chord_play.specs.Texts.{Gives}
use Rattle.chord_scenario.specs.declared.scenario.Scenario.{Scenario}
use Rattle.chord_trace.specs.declared.report.Report.{Report}

-- a run of the scenario that the texts give
pub record IsPlayed (scenario latency : Option (List ℕ)) (old new : Option (List ℕ)) (result : Result Report RunError) : Type 0 where
  pub setup : Scenario
  pub given : Gives scenario latency setup
  pub run : IsRun setup old new result
