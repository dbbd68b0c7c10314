use Rattle.std.proofs.Common.{◌≡◌, ◌∙◌, ◌⊎◌, sym, ap, inl, inr, subst, ℕ, length, List, map, rules, Option, Some, None}
use Rattle.std.specs.Option.{option_or}
use Rattle.toml.specs.Data.{Members}
use Rattle.toml.specs.View.{table_view}
use Rattle.chord_scenario.specs.declared.fault.ScenarioFault.{ScenarioFault}
use Rattle.chord_scenario.specs.declared.fault.ScenarioFault.TheVariants.{Memory}
use Rattle.chord_scenario.specs.declared.key.FileKey.TheVariants as key
use Rattle.chord_scenario.specs.declared.setting.Coordinates.{Coordinates}
use Rattle.chord_scenario.specs.declared.setting.Node.{Node}
use Rattle.chord_scenario.specs.Faults.{first_answer, same_link_twice, below_window, rows_and_coordinates}
use Rattle.chord_scenario.specs.Groups.{pair_questions}
use Rattle.chord_scenario.specs.Latencies.{HasLatencies, square_or_zeros}
use Rattle.chord_scenario.specs.Rows.{Row, rows_of}
use Rattle.chord_scenario.specs.Sections.{Section, section_of}
use Rattle.chord_scenario.specs.Settings.{coordinates_of}
use Rattle.chord_scenario.specs.Values.{number_at}
use Rattle.chord_scenario.proofs.reader.checked_distances.Goals as goal

module _ (top : Members) (ss : List Section) (nodes : List Node) (rows : List Row) where
  abbrev below : Option ScenarioFault
  below = below_window (number_at key.WindowUs top) (number_at key.LatencyUs top) nodes (coordinates_of (number_at key.Seed top) ss) rows

  abbrev both : Option ScenarioFault
  both = rows_and_coordinates (coordinates_of (number_at key.Seed top) ss) rows

  abbrev first : Option ScenarioFault
  first = first_answer (pair_questions (number_at key.WindowUs top) (number_at key.LatencyUs top) nodes (coordinates_of (number_at key.Seed top) ss) rows)

  of_twice : (e : ScenarioFault) → (e ≡ Memory) ⊎ (same_link_twice rows ≡ Some e) → (e ≡ Memory) ⊎ (first ≡ Some e)
  of_twice e (inl memory) = inl memory
  of_twice e (inr fault) = inr (ap (λ f. option_or f (option_or below (option_or both None))) fault)

  after_twice : same_link_twice rows ≡ None → first ≡ option_or below (option_or both None)
  after_twice none = ap (λ f. option_or f (option_or below (option_or both None))) none

  -- what was found with the numbers and the coordinates of the file is the fault of pairs that are too near
  module _ (once : same_link_twice rows ≡ None) (window default : ℕ) (coordinates : List Coordinates) (is : window ≡ number_at key.WindowUs top)
      (is-2 : default ≡ number_at key.LatencyUs top)
      (all : coordinates ≡ coordinates_of (number_at key.Seed top) ss) (found : Option ScenarioFault) (asked : found ≡ below_window window default nodes coordinates rows) where
    after_below : first ≡ option_or found (option_or both None)
    after_below = after_twice once ∙ ap (λ f. option_or f (option_or both None)) (sym (asked ∙ rw (is, is-2, all)))

    of_below : (e : ScenarioFault) → found ≡ Some e → first ≡ Some e
    of_below e fault = after_below ∙ ap (λ f. option_or f (option_or both None)) fault

    of_both : found ≡ None → (lent : List Coordinates) → lent ≡ coordinates_of (number_at key.Seed top) ss
        → (last : Option ScenarioFault) → last ≡ rows_and_coordinates lent rows
        → first ≡ option_or last None
    of_both none lent same last asked-2 =
        after_below ∙ ap (λ f. option_or f (option_or both None)) none
        ∙ ap (λ f. option_or f None) (sym (asked-2 ∙ ap (λ cs. rows_and_coordinates cs rows) same))

pub returns-in_err-cells-clause-refused : goal.returns-in_err-cells-clause-refused
returns-in_err-cells-clause-refused c =
    let told = of_twice (table_view c.args.top.now) (map section_of c.args.tables.now) c.args.rows.now.names.nodes.now (rows_of c.args.rows.now.text.now)
    c.in_err-cells.field-0.0 c.in_err-cells.ensures.refused in
    search (rules, told)

pub returns-in-Some-clause-refused : goal.returns-in-Some-clause-refused
returns-in-Some-clause-refused c =
    inr (of_below (table_view c.args.top.now) (map section_of c.args.tables.now) c.args.rows.now.names.nodes.now (rows_of c.args.rows.now.text.now)
    c.in_ok-cells.ensures.once c.number_at-window.result c.number_at-default.result c.deref-2.result.now c.number_at-window.ensures.value c.number_at-default.ensures.value
    (c.deref-2.ensures.value ∙ c.in_ok-coordinates.ensures ∙ ap (λ seed. coordinates_of seed (map section_of c.args.tables.now)) c.number_at-seed.ensures.value) c.in_ok-fault.field-0 c.in_ok-fault.ensures c.in-Some.fault c.in-Some.is)

pub returns-in-Some-rows_and_coordinates-clause-refused : goal.returns-in-Some-rows_and_coordinates-clause-refused
returns-in-Some-rows_and_coordinates-clause-refused c =
    inr (of_both (table_view c.args.top.now) (map section_of c.args.tables.now) c.args.rows.now.names.nodes.now (rows_of c.args.rows.now.text.now)
    c.in_ok-cells.ensures.once c.number_at-window.result c.number_at-default.result c.deref-2.result.now c.number_at-window.ensures.value c.number_at-default.ensures.value
    (c.deref-2.ensures.value ∙ c.in_ok-coordinates.ensures ∙ ap (λ seed. coordinates_of seed (map section_of c.args.tables.now)) c.number_at-seed.ensures.value) c.in_ok-fault.field-0 c.in_ok-fault.ensures c.in_default.is
    c.deref-3.result.now (c.deref-3.ensures.value ∙ c.in_ok-coordinates.ensures ∙ ap (λ seed. coordinates_of seed (map section_of c.args.tables.now)) c.number_at-seed.ensures.value) (Some c.in-Some-rows_and_coordinates.fault)
    c.in-Some-rows_and_coordinates.ensures)

pub returns-in-None-clause-sound : goal.returns-in-None-clause-sound
returns-in-None-clause-sound c =
    of_both (table_view c.args.top.now) (map section_of c.args.tables.now) c.args.rows.now.names.nodes.now (rows_of c.args.rows.now.text.now)
    c.in_ok-cells.ensures.once c.number_at-window.result c.number_at-default.result c.deref-2.result.now c.number_at-window.ensures.value c.number_at-default.ensures.value
    (c.deref-2.ensures.value ∙ c.in_ok-coordinates.ensures ∙ ap (λ seed. coordinates_of seed (map section_of c.args.tables.now)) c.number_at-seed.ensures.value) c.in_ok-fault.field-0 c.in_ok-fault.ensures c.in_default.is
    c.deref-3.result.now (c.deref-3.ensures.value ∙ c.in_ok-coordinates.ensures ∙ ap (λ seed. coordinates_of seed (map section_of c.args.tables.now)) c.number_at-seed.ensures.value) None c.in-None.ensures

pub returns-in-None-clause-coordinates : goal.returns-in-None-clause-coordinates
returns-in-None-clause-coordinates c = c.in_ok-coordinates.ensures ∙ ap (λ seed. coordinates_of seed (map section_of c.args.tables.now)) c.number_at-seed.ensures.value

pub returns-in-None-clause-square : goal.returns-in-None-clause-square
returns-in-None-clause-square c = c.in_ok-cells.ensures.square

pub latencies-requires-clause-few : goal.latencies-requires-clause-few
latencies-requires-clause-few c = c.requires.few

pub latencies-requires-clause-known : goal.latencies-requires-clause-known
latencies-requires-clause-known c = c.requires.known

pub latencies-requires-clause-good : goal.latencies-requires-clause-good
latencies-requires-clause-good c = c.requires.good

pub below_window-requires-clause-square : goal.below_window-requires-clause-square
below_window-requires-clause-square c =
    let nodes = c.args.rows.now.names.nodes.now in
    subst (λ (cells : List ℕ). HasLatencies nodes (rows_of c.args.rows.now.text.now) (square_or_zeros (length nodes) cells))
    (sym c.deref.ensures.value) c.in_ok-cells.ensures.square

pub below_window-requires-clause-good : goal.below_window-requires-clause-good
below_window-requires-clause-good c = c.requires.good

pub below_window-requires-clause-distinct : goal.below_window-requires-clause-distinct
below_window-requires-clause-distinct c = c.requires.distinct
