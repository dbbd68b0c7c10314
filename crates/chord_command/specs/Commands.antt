-- The commands of the program, as `clap` sees them.
use Rattle.std.specs.Prelude.{◌≡◌, ⊤, true, false, List, [], ◌∷◌, map, codes, Some, pos}
use Rattle.std.specs.Borrow.{Bor}
use Rattle.clap.specs.Words.{App, Rule, Text, new_app, new_rule, rule_of, with_rule}
use Rattle.clap.specs.declared.builder.arg.Arg.{Arg}
use Rattle.clap.specs.declared.builder.action.ArgAction.TheVariants.{Set, SetTrue}
use Rattle.clap.specs.declared.builder.value_parser.ValueParser.TheVariants as parser

-- an option that takes a value
abbrev pub option_rule : Text → Rule
option_rule name = record (new_rule name) {
  long = Some name;
  value_names = 1;
  action = Some Set;
}

-- the option `--scenario`, which takes a file name; a command without it is refused
abbrev pub scenario_rule : Rule
scenario_rule = record (new_rule (codes "scenario")) {
  long = Some (codes "scenario");
  value_names = 1;
  required = true;
  action = Some Set;
}

-- the option `--latency`, which takes a file name and may be left out
abbrev pub latency_rule : Rule
latency_rule = record (new_rule (codes "latency")) {
  long = Some (codes "latency");
  value_names = 1;
  action = Some Set;
}

-- the option `--workers`, which takes the number of worker threads, from 1 to 64
abbrev pub workers_rule : Rule
workers_rule = record (new_rule (codes "workers")) {
  long = Some (codes "workers");
  value_names = 1;
  action = Some Set;
  parser = Some (parser.Signed (pos 1) (pos 64));
}

-- the option `--parts`, which takes the number of parts that the nodes are divided into, from 1 to 512
abbrev pub parts_rule : Rule
parts_rule = record (new_rule (codes "parts")) {
  long = Some (codes "parts");
  value_names = 1;
  action = Some Set;
  parser = Some (parser.Signed (pos 1) (pos 512));
}

-- a list of names, wherever they lie in memory
abbrev pub Names : Type 0
Names = Bor (List (Bor Text))

-- the names themselves, in their order
abbrev pub texts_of : Names → List Text
texts_of names = map (λ name. name.now) names.now

-- the names are the two ways to divide the nodes: `rr` deals them out in turn, `block` keeps neighbours in the file
-- together
abbrev pub IsSplitNames : Names → Type 0
IsSplitNames names = texts_of names ≡ codes "rr" ∷ codes "block" ∷ []

-- the names are those of the three engines: `serial`, `crew` and `team`, in this order
abbrev pub IsEngineNames : Names → Type 0
IsEngineNames names = texts_of names ≡ codes "serial" ∷ codes "crew" ∷ codes "team" ∷ []

-- the names that the options take
pub record OptionNames : Type 0 where
  pub splits : Names
  pub engines : Names
  pub are_splits : IsSplitNames splits
  pub are_engines : IsEngineNames engines

-- the option `--split`, which takes one of these names: the way in which the nodes are divided
abbrev pub split_rule : Names → Rule
split_rule names = record (new_rule (codes "split")) {
  long = Some (codes "split");
  value_names = 1;
  action = Some Set;
  parser = Some (parser.Names names);
}

-- the option `--engine`, which takes one of these names: the engine that runs the scenario
abbrev pub engine_rule : Names → Rule
engine_rule names = record (new_rule (codes "engine")) {
  long = Some (codes "engine");
  value_names = 1;
  action = Some Set;
  parser = Some (parser.Names names);
}

-- the option `--serial`, which takes no value
abbrev pub serial_rule : Rule
serial_rule = record (new_rule (codes "serial")) {
  long = Some (codes "serial");
  action = Some SetTrue;
}

-- the option `--trace`, which takes the name of the file for the trace
abbrev pub trace_rule : Rule
trace_rule = record (new_rule (codes "trace")) {
  long = Some (codes "trace");
  value_names = 1;
  action = Some Set;
}

-- the option `--digest`, which takes the name of the file for the digest
abbrev pub digest_rule : Rule
digest_rule = option_rule (codes "digest")

-- the option `--edges`, which takes the times at which the counts of the digest begin anew
abbrev pub edges_rule : Rule
edges_rule = option_rule (codes "edges")

-- the options of `check` and `ids`
abbrev pub rules_of_files : List Rule
rules_of_files = scenario_rule ∷ latency_rule ∷ []

-- the options of `judge`
abbrev pub rules_of_judge : List Rule
rules_of_judge = scenario_rule ∷ latency_rule ∷ trace_rule ∷ digest_rule ∷ edges_rule ∷ []

-- the options of `run`
abbrev pub rules_of_run : OptionNames → List Rule
rules_of_run names =
    scenario_rule ∷ latency_rule ∷ workers_rule ∷ parts_rule ∷ split_rule names.splits ∷ engine_rule names.engines ∷ serial_rule ∷ trace_rule ∷ []

-- the arguments have these rules in this order, and none is global
abbrev pub HaveRules : List Arg → List Rule → Type 0
HaveRules [] [] = ⊤
HaveRules [] (r ∷ rules) = ⊥
HaveRules (a ∷ arguments) [] = ⊥
HaveRules (a ∷ arguments) (r ∷ rules) = (rule_of a ≡ r) × (a.global ≡ false) × HaveRules arguments rules

-- a command with these rules added in turn
abbrev pub with_rules : App → List Rule → App
with_rules app [] = app
with_rules app (r ∷ rules) = with_rules (with_rule app r) rules

-- the command `check` and its options, which name the two input files
unfoldable pub check_app : App
check_app = with_rule (with_rule (new_app (codes "check")) scenario_rule) latency_rule

-- the command `ids` and its options, which name the two input files
unfoldable pub ids_app : App
ids_app = with_rule (with_rule (new_app (codes "ids")) scenario_rule) latency_rule

-- the command `judge` and its options: the input files, the trace file, the digest file and the edges
unfoldable pub judge_app : App
judge_app =
    with_rule (with_rule (with_rule (with_rule (with_rule (new_app (codes "judge")) scenario_rule) latency_rule) trace_rule) digest_rule) edges_rule

-- the command `run` and its options: the input files, the engine, the division of the nodes, and the trace file
unfoldable pub run_app : OptionNames → App
run_app names =
    with_rule (with_rule (with_rule (with_rule (with_rule (with_rule (with_rule (with_rule
    (new_app (codes "run")) scenario_rule) latency_rule) workers_rule) parts_rule)
    (split_rule names.splits)) (engine_rule names.engines)) serial_rule) trace_rule
