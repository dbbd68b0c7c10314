-- Runs whose workers take their steps in turn.
use Rattle.std.specs.Prelude.{ℕ, List}
use Rattle.chord_machine.specs.Chord.{chord}
use Rattle.chord_scenario.specs.declared.scenario.Scenario.{Scenario}
use Rattle.des_model.specs.Windows.{Division}
use Rattle.des_picks.specs.declared.step.Taken.{Taken}
use Rattle.des_picks.specs.PickedRuns.{AreStepsOf as AreStepsOfMachine}

-- these are the steps of the window machine under the picks, from the first window to the end of the run
abbrev pub AreStepsOf : Scenario → Division → (workers : ℕ) → (picks : List ℕ) → List Taken → Type 0
AreStepsOf sc d workers picks taken = AreStepsOfMachine (chord sc) d workers picks taken
