use Rattle.std.proofs.Common.{◌≡◌, ◌∙◌, ◌⊎◌, ap, inl, inr, List, map, rules, Option, Some, None}
use Rattle.std.specs.Prelude.{◌==◌}
use Rattle.std.specs.Option.{option_or}
use Rattle.toml.specs.Data.{Members}
use Rattle.toml.specs.View.{table_view}
use Rattle.chord_scenario.specs.declared.fault.ScenarioFault.{ScenarioFault}
use Rattle.chord_scenario.specs.declared.fault.ScenarioFault.TheVariants.{Memory}
use Rattle.chord_scenario.specs.declared.key.FileKey.TheVariants as key
use Rattle.chord_scenario.specs.declared.setting.Node.{Node}
use Rattle.chord_scenario.specs.Faults.{first_answer}
use Rattle.chord_scenario.specs.Groups.{link_questions, pair_questions, late_questions}
use Rattle.chord_scenario.specs.Rows.{Row, rows_of}
use Rattle.chord_scenario.specs.Sections.{Section, section_of}
use Rattle.chord_scenario.specs.Settings.{coordinates_of, commands_of}
use Rattle.chord_scenario.specs.Values.{number_at}
use Rattle.chord_scenario.proofs.Questions.{first_answer-append, link_questions-known, link_questions-good}
use Rattle.chord_scenario.proofs.reader.link_nodes.Goals as goal

module _ (top : Members) (ss : List Section) (nodes : List Node) (rows : List Row) where
  abbrev links : List (Option ScenarioFault)
  links = link_questions (number_at key.Profile top == 4) (number_at key.List top) (number_at key.DurationUs top) ss nodes rows

  abbrev pairs : List (Option ScenarioFault)
  pairs = pair_questions (number_at key.WindowUs top) (number_at key.LatencyUs top) nodes (coordinates_of (number_at key.Seed top) ss) rows

  -- a fault of commands and rows, each for itself, comes before those of pairs
  of_links : (e : ScenarioFault) → (e ≡ Memory) ⊎ (first_answer links ≡ Some e) → (e ≡ Memory) ⊎ (first_answer (late_questions top ss nodes rows) ≡ Some e)
  of_links e (inl memory) = inl memory
  of_links e (inr fault) = inr (first_answer-append links pairs ∙ ap (λ f. option_or f (first_answer pairs)) fault)

  after_links : first_answer links ≡ None → first_answer (late_questions top ss nodes rows) ≡ first_answer pairs
  after_links none = first_answer-append links pairs ∙ ap (λ f. option_or f (first_answer pairs)) none

  of_pairs : first_answer links ≡ None → (e : ScenarioFault) → (e ≡ Memory) ⊎ (first_answer pairs ≡ Some e)
      → (e ≡ Memory) ⊎ (first_answer (late_questions top ss nodes rows) ≡ Some e)
  of_pairs none e (inl memory) = inl memory
  of_pairs none e (inr fault) = inr (after_links none ∙ fault)

pub checked_distances-requires-clause-known : goal.checked_distances-requires-clause-known
checked_distances-requires-clause-known c =
    let top = table_view c.args.top.now in
    rw (c.in_ok-rows.ensures.nodes, c.in_ok-rows.ensures.text) (link_questions-known (number_at key.Profile top == 4) (number_at key.List top) (number_at key.DurationUs top)
    (map section_of c.args.tables.now) c.args.names.nodes.now (rows_of c.args.csv.now) c.in_ok-rows.ensures.sound)

pub returns-in_err-rows-clause-refused : goal.returns-in_err-rows-clause-refused
returns-in_err-rows-clause-refused c =
    let told = of_links (table_view c.args.top.now) (map section_of c.args.tables.now) c.args.names.nodes.now (rows_of c.args.csv.now)
    c.in_err-rows.field-0.0 c.in_err-rows.ensures.refused in
    search (rules, told)

pub returns-in_err-distances-clause-refused : goal.returns-in_err-distances-clause-refused
returns-in_err-distances-clause-refused c =
    let told = of_pairs (table_view c.args.top.now) (map section_of c.args.tables.now) c.args.names.nodes.now (rows_of c.args.csv.now)
    c.in_ok-rows.ensures.sound c.in_err-distances.field-0.0
    (rw (c.in_ok-rows.ensures.nodes, c.in_ok-rows.ensures.text) at c.in_err-distances.ensures.refused) in
    search (rules, told)

pub returns-clause-sound : goal.returns-clause-sound
returns-clause-sound c =
    after_links (table_view c.args.top.now) (map section_of c.args.tables.now) c.args.names.nodes.now (rows_of c.args.csv.now) c.in_ok-rows.ensures.sound
    ∙ (rw (c.in_ok-rows.ensures.nodes, c.in_ok-rows.ensures.text) at c.in_ok-distances.ensures.sound)

pub checked_distances-requires-clause-few : goal.checked_distances-requires-clause-few
checked_distances-requires-clause-few c = rw c.in_ok-rows.ensures.nodes c.requires.few

pub checked_distances-requires-clause-distinct : goal.checked_distances-requires-clause-distinct
checked_distances-requires-clause-distinct c = rw c.in_ok-rows.ensures.nodes c.requires.distinct

pub checked_distances-requires-clause-good : goal.checked_distances-requires-clause-good
checked_distances-requires-clause-good c =
    let top = table_view c.args.top.now in
    rw c.in_ok-rows.ensures.text (link_questions-good (number_at key.Profile top == 4) (number_at key.List top) (number_at key.DurationUs top) (map section_of c.args.tables.now)
    c.args.names.nodes.now (rows_of c.args.csv.now) c.in_ok-rows.ensures.sound)

pub returns-clause-good : goal.returns-clause-good
returns-clause-good c =
    let top = table_view c.args.top.now in
    link_questions-good (number_at key.Profile top == 4) (number_at key.List top) (number_at key.DurationUs top) (map section_of c.args.tables.now)
    c.args.names.nodes.now (rows_of c.args.csv.now) c.in_ok-rows.ensures.sound

pub returns-clause-commands : goal.returns-clause-commands
returns-clause-commands c =
    c.in_ok-commands.ensures ∙ ap (λ nodes. commands_of c.args.circle nodes (map section_of c.args.tables.now)) c.in_ok-rows.ensures.nodes

pub returns-clause-coordinates : goal.returns-clause-coordinates
returns-clause-coordinates c = c.in_ok-distances.ensures.coordinates

pub returns-clause-square : goal.returns-clause-square
returns-clause-square c = rw (c.in_ok-rows.ensures.nodes, c.in_ok-rows.ensures.text) at c.in_ok-distances.ensures.square
