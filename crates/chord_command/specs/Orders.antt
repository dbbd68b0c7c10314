-- The order that the arguments of the program give.
use Rattle.std.specs.Prelude.{◌≡◌, ◌⊎◌, ◌↔◌, ◌≤◌, ◌==◌, ◌&&◌, if◌then◌else◌, ℕ, Bool, true, false, List, [], drop, slice_get, codes, Option, Some, option_map, string_bytes, String}
use Rattle.std.specs.Global.{Global}
use Rattle.std.specs.Option.{option_map_or}
use Rattle.std.specs.Str.{bytes_eq}
use Rattle.std.specs.Str.Parse.{IsNumeral, digits_value, without_leading_plus}
use Rattle.clap.specs.Words.{Row, Text, fault_of, first_of, matches_of, one_of, takes}
use Rattle.chord_command.specs.Commands.{OptionNames, check_app, ids_app, judge_app, run_app}
use Rattle.chord_command.specs.declared.order.Files.{Files}
use Rattle.chord_command.specs.declared.order.Judging.{Judging}
use Rattle.chord_plan.specs.declared.plan.Engine.{Engine}
use Rattle.chord_plan.specs.declared.plan.Engine.TheVariants as engine
use Rattle.chord_plan.specs.declared.plan.Plan.{Plan}
use Rattle.chord_plan.specs.declared.plan.Split.TheVariants.{Blocks}
use Rattle.chord_command.specs.declared.order.Order.{Order}
use Rattle.chord_command.specs.declared.order.Order.TheVariants as order

-- the number that a text of decimal digits writes
abbrev pub number_of : Text → ℕ
number_of text = digits_value 10 (without_leading_plus text)

-- the text writes a number from 1 to `most`
abbrev pub IsCountUpTo : ℕ → Text → Type 0
IsCountUpTo most text = IsNumeral 10 (without_leading_plus text) × (1 ≤ number_of text) × (number_of text ≤ most)

-- the number that the option was given, and the default without the option
abbrev pub count_or : ℕ → Option Text → ℕ
count_or default text = option_map_or number_of text default

-- whether the option was given this value
abbrev pub is_value : Text → Option Text → Bool
is_value text given = option_map_or (λ value. bytes_eq value text) given false

-- the engine of a name; `clap` takes no name but `serial`, `crew` and `team`
abbrev pub engine_named : Text → Engine
engine_named name =
    if bytes_eq name (codes "serial") then engine.Serial
    else if bytes_eq name (codes "crew") then engine.Crew
    else engine.Team

-- the engine if none is named: the serial one for one worker and one part, and otherwise the team
abbrev pub engine_for : ℕ → ℕ → Engine
engine_for workers parts = if (workers == 1) && (parts == 1) then engine.Serial else engine.Team

-- the serial engine with `--serial`, else the one that is named, else the one for these workers and parts
abbrev pub engine_of : List Row → ℕ → ℕ → Engine
engine_of rows workers parts =
    if is_value (codes "true") (first_of (codes "serial") rows) then engine.Serial
    else option_map_or engine_named (first_of (codes "engine") rows) (engine_for workers parts)

-- the file names are those of the options
pub record HasFiles (rows : List Row) (f : Files) : Type 0 where
  pub scenario : first_of (codes "scenario") rows ≡ Some (string_bytes f.scenario)
  pub latency : first_of (codes "latency") rows ≡ option_map string_bytes f.latency

-- the plan is the one of the options, with the defaults of those left out
pub record HasPlan (rows : List Row) (p : Plan) : Type 0 where
  pub engine : p.engine ≡ engine_of rows p.workers p.parts
  pub workers : p.workers ≡ count_or 1 (one_of (codes "workers") rows)
  pub parts : p.parts ≡ count_or p.workers (one_of (codes "parts") rows)
  pub split : (p.split ≡ Blocks) ↔ (first_of (codes "split") rows ≡ Some (codes "block"))

-- the argument after the program's name
abbrev pub command_word : List Text → Option Text
command_word words = slice_get words 1

-- the files, the plan and the file for the trace that these options name
abbrev pub HasOptions : List Row → Files → Plan → Option (String Global) → Type 0
HasOptions rows files plan trace =
    HasFiles rows files × HasPlan rows plan × (first_of (codes "trace") rows ≡ option_map string_bytes trace)

-- the trace file, the digest file and the edges are those of the options
pub record HasJudging (rows : List Row) (j : Judging) : Type 0 where
  pub trace : first_of (codes "trace") rows ≡ option_map string_bytes j.trace
  pub digest : first_of (codes "digest") rows ≡ option_map string_bytes j.digest
  pub edges : first_of (codes "edges") rows ≡ option_map string_bytes j.edges

-- the files of a scenario, and what a judge reads and writes, are those of the options
abbrev pub IsJudged : List Row → Files → Judging → Type 0
IsJudged rows files judging = HasFiles rows files × HasJudging rows judging

-- the arguments from `run` on give these files, this plan and this trace
abbrev pub IsRunOf : List Text → Files → Plan → Option (String Global) → Type 0
IsRunOf words files plan trace =
    (names : OptionNames) × (fault_of (run_app names) words ≡ []) × HasOptions (matches_of (run_app names) words) files plan trace

-- the arguments give this order: `clap` finds no fault in them, and the order has what it matched
abbrev pub IsOrderOf : List Text → Order → Type 0
IsOrderOf words (order.Check files) =
    (command_word words ≡ Some (codes "check")) × (fault_of check_app (drop 1 words) ≡ [])
    × HasFiles (matches_of check_app (drop 1 words)) files
IsOrderOf words (order.Ids files) =
    (command_word words ≡ Some (codes "ids")) × (fault_of ids_app (drop 1 words) ≡ [])
    × HasFiles (matches_of ids_app (drop 1 words)) files
IsOrderOf words (order.Judge files judging) =
    (command_word words ≡ Some (codes "judge")) × (fault_of judge_app (drop 1 words) ≡ [])
    × IsJudged (matches_of judge_app (drop 1 words)) files judging
IsOrderOf words (order.Run files plan trace) =
    (command_word words ≡ Some (codes "run")) × IsRunOf (drop 1 words) files plan trace

-- `clap` takes the arguments
abbrev pub TakesWords : List Text → Type 0
TakesWords words =
    ((command_word words ≡ Some (codes "check")) × (takes check_app (drop 1 words) ≡ true))
    ⊎ ((command_word words ≡ Some (codes "ids")) × (takes ids_app (drop 1 words) ≡ true))
    ⊎ ((command_word words ≡ Some (codes "judge")) × (takes judge_app (drop 1 words) ≡ true))
    ⊎ ((command_word words ≡ Some (codes "run"))
    × ((names : OptionNames) → takes (run_app names) (drop 1 words) ≡ true))
