-- What the run of a scenario is: its events one at a time, what it writes and what it reports.
use Rattle.std.specs.Prelude.{ℕ, List}
use Rattle.des_model.specs.Histories.{IsOverLimit, full_history, history, trace}
use Rattle.chord_scenario.specs.declared.scenario.Scenario.{Scenario}
use Rattle.chord_trace.specs.declared.piece.Piece.{Piece}
use Rattle.chord_trace.specs.declared.report.Report.{Report}
use Rattle.chord_trace.specs.Report.{IsReportOf}
use Rattle.chord_trace.specs.Texts.{pieces_text}
use Rattle.chord_machine.specs.Chord.{chord}

-- the trace of the first events up to this number, taken one at a time in the order of their keys; if no event may
-- follow, with the remaining audits
abbrev pub trace_after : Scenario → (events : ℕ) → List Piece
trace_after sc events = trace (chord sc) (history (chord sc) events)

-- the trace of the whole run
abbrev pub whole_trace : Scenario → List Piece
whole_trace sc = trace (chord sc) (full_history (chord sc))

-- the text of the trace of the whole run
abbrev pub trace_text : Scenario → List ℕ
trace_text sc = pieces_text sc (whole_trace sc)

-- the report of the trace of the whole run
abbrev pub IsReport : Scenario → Report → Type 0
IsReport sc report = IsReportOf sc.profile (whole_trace sc) report

-- the run has more events than the scenario allows
abbrev pub HasTooManyEvents : Scenario → Type 0
HasTooManyEvents sc = IsOverLimit (chord sc)
