-- The faults of a simulation.
use Rattle.std.specs.Prelude.{Bool, false, true, Result, Err}
use Rattle.des_event.specs.declared.error.RunError.TheVariants as run
use Rattle.chord_play.specs.declared.fault.PlayFault.{PlayFault}
use Rattle.chord_play.specs.declared.fault.PlayFault.TheVariants as play
use Rattle.chord_play.specs.declared.text_reader.TextFault.{TextFault}
use Rattle.chord_play.specs.declared.text_reader.TextFault.TheVariants as text
use Rattle.chord_plan.specs.declared.text.Text.{Text}
use Rattle.chord_scenario.specs.declared.fault.ScenarioFault.{ScenarioFault}
use Rattle.chord_scenario.specs.declared.fault.ScenarioFault.TheVariants as scenario
use Rattle.des_output.specs.Writing.{is_write}

-- why a text was not read
abbrev pub fault_of_text : Text → TextFault → PlayFault
fault_of_text t text.Read = play.Read t
fault_of_text t text.TooLong = play.TooLong t
fault_of_text t text.Memory = play.Run run.Memory

-- why a scenario was not given
abbrev pub fault_of_scenario : ScenarioFault → PlayFault
fault_of_scenario scenario.Memory = play.Run run.Memory
fault_of_scenario fault = play.Scenario fault

-- the fault is an error of the run, and not one of its texts
abbrev pub is_of_run : PlayFault → Bool
is_of_run (play.Run error) = true
is_of_run fault = false

-- of the results of a simulation, the one that says that the writer failed
abbrev pub is_write_fault : {A : Type 0} → Result A PlayFault → Bool
is_write_fault (Err (play.Run error)) = is_write {A = Unit {0}} (Err error)
is_write_fault result = false

-- of the results of reading a text, the one that says that the reader failed
abbrev pub is_read_fault : {A : Type 0} → Result A TextFault → Bool
is_read_fault (Err text.Read) = true
is_read_fault result = false
