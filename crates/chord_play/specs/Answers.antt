-- What the commands write of a scenario.
use Rattle.std.specs.Io.KnownBytes.{Appends}
use Rattle.std.specs.Prelude.{ℕ, List, ◌++◌, codes, decimal, length, Option}
use Rattle.std.specs.List.{flat_map, range_with_len}
use Rattle.chord_machine.specs.Chord.{chord}
use Rattle.chord_machine.specs.Run.{HasTooManyEvents, IsReport}
use Rattle.chord_play.specs.Texts.{Gives}
use Rattle.chord_scenario.specs.declared.scenario.Scenario.{Scenario}
use Rattle.chord_scenario.specs.World.{ident_of, name_of as node_name, node_count}
use Rattle.chord_play.specs.declared.questions.Question.{Question}
use Rattle.chord_play.specs.declared.questions.Question.TheVariants as question
use Rattle.chord_trace.specs.ReportText.{report_text}
use Rattle.chord_trace.specs.Texts.{piece_text}
use Rattle.des_machine.specs.Runs.{IsBeginning}
use Rattle.des_output.specs.Writing.{AppendsFront}
use Rattle.chord_trace.specs.declared.report.Report.{Report}

-- what `check` prints of a scenario
abbrev pub check_text : Scenario → List ℕ
check_text sc = codes "ok nodes=" ++ decimal (node_count sc) ++ codes " commands=" ++ decimal (length sc.commands) ++ codes "\n"

-- the line of a node: its name and its identifier
abbrev pub ident_line : Scenario → (node : ℕ) → List ℕ
ident_line sc node = node_name sc node ++ codes " " ++ decimal (ident_of sc node) ++ codes "\n"

-- what `ids` prints of a scenario
abbrev pub ids_text : Scenario → List ℕ
ids_text sc = flat_map (ident_line sc) (range_with_len 0 (node_count sc))

-- the answer to a question about a scenario
abbrev pub told : Question → Scenario → List ℕ
told question.Counts = check_text
told question.Idents = ids_text

-- the text of the scenario that the two files give was written
pub record IsAnswered (text : Scenario → List ℕ) (scenario latency old new : Option (List ℕ)) : Type 0 where
  pub setup : Scenario
  pub given : Gives scenario latency setup
  pub out : Appends old new (text setup)

-- first bytes of the text of the scenario that the two files give were written: all of them, some or none
pub record HasAnswered (text : Scenario → List ℕ) (scenario latency old new : Option (List ℕ)) : Type 0 where
  pub setup : Scenario
  pub given : Gives scenario latency setup
  pub front : AppendsFront old new (text setup)

-- a beginning of the trace of the scenario that the two files give was written
pub record HasBegun (scenario latency old new : Option (List ℕ)) : Type 0 where
  pub setup : Scenario
  pub given : Gives scenario latency setup
  pub beginning : IsBeginning (piece_text setup) (chord setup) old new

-- the scenario that the two files give has more events than it allows
pub record IsOver (scenario latency : Option (List ℕ)) : Type 0 where
  pub setup : Scenario
  pub given : Gives scenario latency setup
  pub over : HasTooManyEvents setup

-- the report of the scenario that the two files give was written
pub record IsReported (scenario latency old new : Option (List ℕ)) : Type 0 where
  pub setup : Scenario
  pub given : Gives scenario latency setup
  pub report : Report
  pub right : IsReport setup report
  pub out : Appends old new (report_text report)

-- first bytes of the report of the scenario that the two files give were written: all of them, some or none
pub record HasReported (scenario latency old new : Option (List ℕ)) : Type 0 where
  pub setup : Scenario
  pub given : Gives scenario latency setup
  pub report : Report
  pub right : IsReport setup report
  pub front : AppendsFront old new (report_text report)
