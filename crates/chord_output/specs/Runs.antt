-- What every engine promises of a run.
use Rattle.std.specs.Prelude.{ℕ, List, Option, Result}
use Rattle.des_event.specs.declared.error.RunError.{RunError}
use Rattle.des_machine.specs.Runs.{IsRun as IsRunOf}
use Rattle.chord_machine.specs.Chord.{chord}
use Rattle.chord_scenario.specs.declared.scenario.Scenario.{Scenario}
use Rattle.chord_trace.specs.declared.report.Report.{Report}
use Rattle.chord_trace.specs.Report.{IsReportOf}
use Rattle.chord_trace.specs.Texts.{piece_text}

-- A run of the scenario, by whatever engine: the whole trace and the report, or an error and a beginning of the trace. The
-- writer held the old bytes at the start.
abbrev pub IsRun : Scenario → (old new : Option (List ℕ)) → Result Report RunError → Type 0
IsRun sc old new result = IsRunOf (piece_text sc) (chord sc) (IsReportOf sc.profile) old new result
