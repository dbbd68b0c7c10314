-- The questions of faults in the groups that the reader asks together; in this order they are all of them.
use Rattle.std.specs.Prelude.{ℕ, ◌==◌, Bool, List, [], ◌∷◌, ◌++◌, Option}
use Rattle.toml.specs.Data.{Members}
use Rattle.chord_scenario.specs.declared.key.FileKey.TheVariants as key
use Rattle.chord_scenario.specs.declared.setting.Coordinates.{Coordinates}
use Rattle.chord_scenario.specs.declared.setting.Node.{Node}
use Rattle.chord_scenario.specs.declared.fault.ScenarioFault.{ScenarioFault}
use Rattle.chord_scenario.specs.Faults.{
  bad_name,
  same_name,
  same_id,
  unknown_node,
  too_few_initial,
  time_after_end,
  bad_latency_row,
  self_link,
  same_link_twice,
  below_window,
  rows_and_coordinates,
}
use Rattle.chord_scenario.specs.KeyFaults.{unknown_key, missing_key, wrong_type, out_of_range}
use Rattle.chord_scenario.specs.Rows.{Row}
use Rattle.chord_scenario.specs.Sections.{Section}
use Rattle.chord_scenario.specs.Settings.{coordinates_of}
use Rattle.chord_scenario.specs.Values.{number_at}

-- the questions of the keys
abbrev pub key_questions : ℕ → ℕ → List Section → List (Option ScenarioFault)
key_questions profile bits ss = unknown_key profile ss ∷ missing_key profile ss ∷ wrong_type profile ss ∷ out_of_range profile bits ss ∷ []

-- the questions of the nodes
abbrev pub node_questions : List Section → List Node → List (Option ScenarioFault)
node_questions ss nodes = bad_name ss ∷ same_name nodes ∷ same_id nodes ∷ []

-- the questions of the commands and rows, each for itself
abbrev pub link_questions : (extended : Bool) → ℕ → ℕ → List Section → List Node → List Row → List (Option ScenarioFault)
link_questions extended list duration ss nodes rows =
    unknown_node nodes ss rows
    ∷ too_few_initial extended list nodes
    ∷ time_after_end duration ss
    ∷ bad_latency_row rows
    ∷ self_link extended ss rows
    ∷ []

-- the questions of the pairs that rows or coordinates link
abbrev pub pair_questions : ℕ → ℕ → List Node → List Coordinates → List Row → List (Option ScenarioFault)
pair_questions window default nodes coordinates rows =
    same_link_twice rows ∷ below_window window default nodes coordinates rows ∷ rows_and_coordinates coordinates rows ∷ []

-- the questions of all that links nodes
abbrev pub late_questions : Members → List Section → List Node → List Row → List (Option ScenarioFault)
late_questions top ss nodes rows =
    link_questions (number_at key.Profile top == 4) (number_at key.List top) (number_at key.DurationUs top) ss nodes rows
    ++ pair_questions (number_at key.WindowUs top) (number_at key.LatencyUs top) nodes (coordinates_of (number_at key.Seed top) ss) rows
