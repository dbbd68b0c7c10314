use Rattle.std.proofs.Common.{◌≡◌, ◌∙◌, ◌⊎◌, ◌++◌, ◌<◌, ◌^◌, inl, inr, List, Option, ap, subst, sym, ℕ, map, length, Some, None, refl, rules}
use Rattle.std.specs.List.{All}
use Rattle.std.specs.Option.{option_or}
use Rattle.chord_scenario.specs.Rows.{rows_of}
use Rattle.toml.specs.Data.{Members}
use Rattle.toml.specs.View.{table_view}
use Rattle.chord_scenario.specs.declared.fault.ScenarioFault.{ScenarioFault}
use Rattle.chord_scenario.specs.declared.fault.ScenarioFault.TheVariants.{Memory}
use Rattle.chord_scenario.specs.declared.key.FileKey.TheVariants as key
use Rattle.chord_scenario.specs.declared.setting.Command.{Command}
use Rattle.chord_scenario.specs.declared.setting.Node.{Node}
use Rattle.chord_scenario.specs.Accepted.{IsSetupOf, setup_with, nodes_in, commands_in}
use Rattle.chord_circle.specs.Circle.{leading}
use Rattle.chord_scenario.specs.Order.{AreApart, AreRanksOf}
use Rattle.chord_scenario.specs.Range.{IsInRange}
use Rattle.chord_scenario.specs.Faults.{file_fault, first_answer}
use Rattle.chord_scenario.specs.Groups.{key_questions, node_questions, late_questions}
use Rattle.chord_scenario.specs.Latencies.{HasLatencies, square_or_zeros}
use Rattle.chord_scenario.specs.Rows.{Row}
use Rattle.chord_scenario.specs.Sections.{Section, section_of, sections}
use Rattle.chord_scenario.specs.Settings.{bootstraps_of, commands_of, coordinates_of, nodes_of}
use Rattle.chord_scenario.specs.Values.{number_at}
use Rattle.chord_scenario.proofs.InRange.{KeysFit, keys_fit, in_range, nodes_apart}
use Rattle.chord_scenario.proofs.LatencyFacts.{placed}
use Rattle.chord_scenario.proofs.Questions.{first_answer-append}
use Rattle.chord_scenario.proofs.Scenarios.{node_questions-distinct, node_questions-idents, latency-between}
use Rattle.chord_scenario.proofs.Squares.{square_is}
use Rattle.chord_scenario.proofs.reader.scenario_of.Goals as goal

-- the tables and nodes that a step was lent are those of the file
module _ (top : Members) where
  fit : first_answer (key_questions (number_at key.Profile top) (number_at key.Bits top) (sections top)) ≡ None → KeysFit top
  fit none = keys_fit (number_at key.Profile top) (number_at key.Bits top) top none

  own_nodes : (circle : ℕ) (ss : List Section) (nodes : List Node) → circle ≡ number_at key.Bits top → ss ≡ sections top → nodes ≡ nodes_of circle ss
      → nodes ≡ nodes_in top
  own_nodes circle ss nodes is same h = rw (← is, ← same) h

  own_commands : (circle : ℕ) (ss : List Section) (nodes : List Node) (commands : List Command) → circle ≡ number_at key.Bits top → ss ≡ sections top
      → nodes ≡ nodes_in top
      → commands ≡ commands_of circle nodes ss → commands ≡ commands_in top
  own_commands circle ss nodes commands is same own h = h ∙ rw (is, same, own)

  nodes_sound : (ss : List Section) (nodes : List Node) → ss ≡ sections top → nodes ≡ nodes_in top → first_answer (node_questions ss nodes) ≡ None
      → first_answer (node_questions (sections top) (nodes_in top)) ≡ None
  nodes_sound ss nodes same own h = rw (← own, ← same) h

  late_sound : (ss : List Section) (nodes : List Node) (rows : List Row) → ss ≡ sections top → nodes ≡ nodes_in top
      → first_answer (late_questions top ss nodes rows) ≡ None
      → first_answer (late_questions top (sections top) (nodes_in top) rows) ≡ None
  late_sound ss nodes rows same own h = rw (← own, ← same) h

-- the first fault of a file is that of its keys, or else of its nodes, or else of what links nodes
module _ (top : Members) (rows : List Row) where
  abbrev of_keys : Option ScenarioFault
  of_keys = first_answer (key_questions (number_at key.Profile top) (number_at key.Bits top) (sections top))

  abbrev of_nodes : Option ScenarioFault
  of_nodes = first_answer (node_questions (sections top) (nodes_in top))

  abbrev of_links : Option ScenarioFault
  of_links = first_answer (late_questions top (sections top) (nodes_in top) rows)

  fault_is : file_fault top rows ≡ option_or of_keys (option_or of_nodes of_links)
  unfolding file_fault
  fault_is =
      let late = late_questions top (sections top) (nodes_in top) rows in
      first_answer-append (key_questions (number_at key.Profile top) (number_at key.Bits top) (sections top))
      (node_questions (sections top) (nodes_in top) ++ late)
      ∙ ap (option_or of_keys) (first_answer-append (node_questions (sections top) (nodes_in top)) late)

  first_of_keys : (e : ScenarioFault) → of_keys ≡ Some e → (e ≡ Memory) ⊎ (file_fault top rows ≡ Some e)
  first_of_keys e fault = inr (fault_is ∙ ap (λ f. option_or f (option_or of_nodes of_links)) fault)

  after_keys : of_keys ≡ None → file_fault top rows ≡ option_or of_nodes of_links
  after_keys none = fault_is ∙ ap (λ f. option_or f (option_or of_nodes of_links)) none

  after_nodes : of_keys ≡ None → of_nodes ≡ None → file_fault top rows ≡ of_links
  after_nodes none none-2 = after_keys none ∙ ap (λ f. option_or f of_links) none-2

  first_of_nodes : of_keys ≡ None → (ss : List Section) (nodes : List Node) → ss ≡ sections top → nodes ≡ nodes_in top
      → (e : ScenarioFault) → (e ≡ Memory) ⊎ (first_answer (node_questions ss nodes) ≡ Some e) → (e ≡ Memory) ⊎ (file_fault top rows ≡ Some e)
  first_of_nodes none ss nodes same own e (inl memory) = inl memory
  first_of_nodes none ss nodes same own e (inr fault) =
      let asked : of_nodes ≡ Some e = rw (← own, ← same) fault in inr (after_keys none ∙ ap (λ f. option_or f of_links) asked)

  first_of_links : of_keys ≡ None → of_nodes ≡ None → (ss : List Section) (nodes : List Node) → ss ≡ sections top → nodes ≡ nodes_in top
      → (e : ScenarioFault) → (e ≡ Memory) ⊎ (first_answer (late_questions top ss nodes rows) ≡ Some e) → (e ≡ Memory) ⊎ (file_fault top rows ≡ Some e)
  first_of_links none none-2 ss nodes same own e (inl memory) = inl memory
  first_of_links none none-2 ss nodes same own e (inr fault) =
      let asked : of_links ≡ Some e = rw (← own, ← same) fault in inr (after_nodes none none-2 ∙ asked)

pub checked_names-requires : goal.checked_names-requires
checked_names-requires c =
    let top = table_view c.args.top.now in
    let tables = ap (map section_of) c.as_slice-tables.ensures.value ∙ c.in_ok-placed.ensures in
    let own = own_nodes top c.in_ok-circle.circle (map section_of c.as_slice-tables.result.now) c.in_ok-nodes.nodes.items c.in_ok-circle.ensures.value
    tables c.in_ok-nodes.ensures.value in
    rw (c.as_slice.ensures.value, own) (fit top c.in_ok-circle.ensures.sound).nodes

pub link_nodes-requires-clause-few : goal.link_nodes-requires-clause-few
link_nodes-requires-clause-few c =
    let top = table_view c.args.top.now in
    let tables = ap (map section_of) c.as_slice-tables.ensures.value ∙ c.in_ok-placed.ensures in
    let own = own_nodes top c.in_ok-circle.circle (map section_of c.as_slice-tables.result.now) c.in_ok-nodes.nodes.items c.in_ok-circle.ensures.value
    tables c.in_ok-nodes.ensures.value in
    rw (c.in_ok-names.ensures.nodes, c.as_slice.ensures.value, own) (fit top c.in_ok-circle.ensures.sound).nodes

pub assembled-requires-clause-profile : goal.assembled-requires-clause-profile
assembled-requires-clause-profile c = (fit (table_view c.args.top.now) c.in_ok-circle.ensures.sound).profile

pub assembled-requires-clause-in_range : goal.assembled-requires-clause-in_range
assembled-requires-clause-in_range c =
    let top = table_view c.args.top.now in
    let rows = rows_of c.args.csv.now in
    let ss = map section_of c.as_slice-tables.result.now in
    let linked = c.in_ok-linked.ensures in
    let is = c.in_ok-circle.ensures.value in
    let tables = ap (map section_of) c.as_slice-tables.ensures.value ∙ c.in_ok-placed.ensures in
    let own = own_nodes top c.in_ok-circle.circle ss c.in_ok-nodes.nodes.items is tables c.in_ok-nodes.ensures.value in
    let asked = nodes_sound top ss c.as_slice.result.now tables (c.as_slice.ensures.value ∙ own) c.in_ok-names.ensures.sound in
    let lent = c.in_ok-names.ensures.nodes ∙ c.as_slice.ensures.value ∙ own in
    let late = late_sound top ss c.in_ok-names.names.nodes.now rows tables lent linked.sound in
    let commands = own_commands top c.in_ok-circle.circle ss c.in_ok-names.names.nodes.now c.in_ok-linked.linked.commands.items is tables lent
    linked.commands in
    let cells = square_or_zeros (length (nodes_in top)) c.in_ok-linked.linked.distances.cells.items in
    let square = subst (λ n. HasLatencies n rows (square_or_zeros (length n) c.in_ok-linked.linked.distances.cells.items)) lent linked.square in
    let on_circle : All (λ n. n.ident < 2 ^ number_at key.Bits top) (nodes_in top) = rw (← own, ← is) c.in_ok-nodes.ensures.on_circle in
    let lent_cells = c.in_ok-linked.linked.distances.cells.items in
    subst IsInRange (λ i. setup_with top (sym own i) (sym commands i) (square_or_zeros (length (sym own i)) lent_cells))
    (in_range (number_at key.Profile top) top rows cells refl c.in_ok-circle.ensures.sound asked late square on_circle)

pub returns-clause-values : goal.returns-clause-values
returns-clause-values c =
    let top = table_view c.args.top.now in
    let rows = rows_of c.args.csv.now in
    let ss = map section_of c.as_slice-tables.result.now in
    let linked = c.in_ok-linked.ensures in
    let is = c.in_ok-circle.ensures.value in
    let tables = ap (map section_of) c.as_slice-tables.ensures.value ∙ c.in_ok-placed.ensures in
    let own = own_nodes top c.in_ok-circle.circle ss c.in_ok-nodes.nodes.items is tables c.in_ok-nodes.ensures.value in
    let asked = nodes_sound top ss c.as_slice.result.now tables (c.as_slice.ensures.value ∙ own) c.in_ok-names.ensures.sound in
    let lent = c.in_ok-names.ensures.nodes ∙ c.as_slice.ensures.value ∙ own in
    let commands = own_commands top c.in_ok-circle.circle ss c.in_ok-names.names.nodes.now c.in_ok-linked.linked.commands.items is tables lent
    linked.commands in
    let cells = square_or_zeros (length (nodes_in top)) c.in_ok-linked.linked.distances.cells.items in
    let square = subst (λ n. HasLatencies n rows (square_or_zeros (length n) c.in_ok-linked.linked.distances.cells.items)) lent linked.square in
    let distinct = node_questions-distinct (sections top) (nodes_in top) asked in
    let sc = setup_with top (nodes_in top) (commands_in top) cells in
    let lent_cells = c.in_ok-linked.linked.distances.cells.items in
    let made : c.assembled.result ≡ sc =
    c.assembled.ensures ∙ (λ i. setup_with top (own i) (commands i) (square_or_zeros (length (own i)) lent_cells)) in
    subst (IsSetupOf top rows) (sym made) (record {
      values = ap (setup_with top (nodes_in top) (commands_in top)) (square_is (nodes_in top) rows cells square distinct);
      latencies = λ none i j x y apart hx hy. latency-between rows sc i j x y square linked.good distinct none apart hx hy;
      distances = placed sc;
    })

pub returns-in_err-circle-clause-refused : goal.returns-in_err-circle-clause-refused
returns-in_err-circle-clause-refused c =
    let told = first_of_keys (table_view c.args.top.now) (rows_of c.args.csv.now) c.in_err-circle.field-0.0 c.in_err-circle.ensures.refused in
    search (rules, told)

pub returns-in_err-names-clause-refused : goal.returns-in_err-names-clause-refused
returns-in_err-names-clause-refused c =
    let top = table_view c.args.top.now in
    let ss = map section_of c.as_slice-tables.result.now in
    let tables = ap (map section_of) c.as_slice-tables.ensures.value ∙ c.in_ok-placed.ensures in
    let own = own_nodes top c.in_ok-circle.circle ss c.in_ok-nodes.nodes.items c.in_ok-circle.ensures.value tables c.in_ok-nodes.ensures.value in
    let told = first_of_nodes top (rows_of c.args.csv.now) c.in_ok-circle.ensures.sound ss c.as_slice.result.now tables (c.as_slice.ensures.value ∙ own)
    c.in_err-names.field-0.0 c.in_err-names.ensures.refused in
    search (rules, told)

pub returns-in_err-linked-clause-refused : goal.returns-in_err-linked-clause-refused
returns-in_err-linked-clause-refused c =
    let top = table_view c.args.top.now in
    let ss = map section_of c.as_slice-tables.result.now in
    let tables = ap (map section_of) c.as_slice-tables.ensures.value ∙ c.in_ok-placed.ensures in
    let own = own_nodes top c.in_ok-circle.circle ss c.in_ok-nodes.nodes.items c.in_ok-circle.ensures.value tables c.in_ok-nodes.ensures.value in
    let asked = nodes_sound top ss c.as_slice.result.now tables (c.as_slice.ensures.value ∙ own) c.in_ok-names.ensures.sound in
    let lent = c.in_ok-names.ensures.nodes ∙ c.as_slice.ensures.value ∙ own in
    let told = first_of_links top (rows_of c.args.csv.now) c.in_ok-circle.ensures.sound asked ss c.in_ok-names.names.nodes.now tables lent
    c.in_err-linked.field-0.0 c.in_err-linked.ensures.refused in
    search (rules, told)

pub returns-clause-sound : goal.returns-clause-sound
returns-clause-sound c =
    let top = table_view c.args.top.now in
    let rows = rows_of c.args.csv.now in
    let ss = map section_of c.as_slice-tables.result.now in
    let tables = ap (map section_of) c.as_slice-tables.ensures.value ∙ c.in_ok-placed.ensures in
    let own = own_nodes top c.in_ok-circle.circle ss c.in_ok-nodes.nodes.items c.in_ok-circle.ensures.value tables c.in_ok-nodes.ensures.value in
    let asked = nodes_sound top ss c.as_slice.result.now tables (c.as_slice.ensures.value ∙ own) c.in_ok-names.ensures.sound in
    let lent = c.in_ok-names.ensures.nodes ∙ c.as_slice.ensures.value ∙ own in
    after_nodes top rows c.in_ok-circle.ensures.sound asked ∙ late_sound top ss c.in_ok-names.names.nodes.now rows tables lent c.in_ok-linked.ensures.sound

pub bootstraps-requires : goal.bootstraps-requires
bootstraps-requires c =
    let top = table_view c.args.top.now in
    let tables = ap (map section_of) c.as_slice-tables.ensures.value ∙ c.in_ok-placed.ensures in
    let own = own_nodes top c.in_ok-circle.circle (map section_of c.as_slice-tables.result.now) c.in_ok-nodes.nodes.items c.in_ok-circle.ensures.value
    tables c.in_ok-nodes.ensures.value in
    rw (c.as_slice-2.ensures.value, own) (fit top c.in_ok-circle.ensures.sound).nodes

pub order_of-requires-clause-few : goal.order_of-requires-clause-few
order_of-requires-clause-few c =
    let top = table_view c.args.top.now in
    let tables = ap (map section_of) c.as_slice-tables.ensures.value ∙ c.in_ok-placed.ensures in
    let own = own_nodes top c.in_ok-circle.circle (map section_of c.as_slice-tables.result.now) c.in_ok-nodes.nodes.items c.in_ok-circle.ensures.value
    tables c.in_ok-nodes.ensures.value in
    rw (c.as_slice-3.ensures.value, own) (fit top c.in_ok-circle.ensures.sound).nodes

pub order_of-requires-clause-apart : goal.order_of-requires-clause-apart
order_of-requires-clause-apart c =
    let idents = node_questions-idents (map section_of c.as_slice-tables.result.now) c.as_slice.result.now c.in_ok-names.ensures.sound in
    subst AreApart (c.as_slice.ensures.value ∙ sym c.as_slice-3.ensures.value) (nodes_apart c.as_slice.result.now idents)

pub checked_circle-requires : goal.checked_circle-requires
checked_circle-requires c = ap (map section_of) c.as_slice-tables.ensures.value ∙ c.in_ok-placed.ensures

pub link_nodes-requires-clause-distinct : goal.link_nodes-requires-clause-distinct
link_nodes-requires-clause-distinct c =
    rw c.in_ok-names.ensures.nodes
    (node_questions-distinct (map section_of c.as_slice-tables.result.now) c.as_slice.result.now c.in_ok-names.ensures.sound)

pub assembled-requires-clause-circle : goal.assembled-requires-clause-circle
assembled-requires-clause-circle c = c.in_ok-circle.ensures.value

pub assembled-requires-clause-coordinates : goal.assembled-requires-clause-coordinates
assembled-requires-clause-coordinates c =
    let tables = ap (map section_of) c.as_slice-tables.ensures.value ∙ c.in_ok-placed.ensures in
    c.in_ok-linked.ensures.coordinates ∙ ap (coordinates_of (number_at key.Seed (table_view c.args.top.now))) tables

pub assembled-requires-clause-bootstraps : goal.assembled-requires-clause-bootstraps
assembled-requires-clause-bootstraps c = c.in_ok-bootstraps.ensures ∙ ap bootstraps_of c.as_slice-2.ensures.value

pub assembled-requires-clause-ranks : goal.assembled-requires-clause-ranks
assembled-requires-clause-ranks c =
    subst (λ (ns : List Node). AreRanksOf ns c.in_ok-order.order.ranks.items) c.as_slice-3.ensures.value c.in_ok-order.ensures.ranks

pub assembled-requires-clause-in_order : goal.assembled-requires-clause-in_order
assembled-requires-clause-in_order c = c.in_ok-order.ensures.nodes

pub leading_bits-requires : goal.leading_bits-requires
leading_bits-requires c = subst (All (λ n. n.ident < 2 ^ c.in_ok-circle.circle)) (sym c.as_slice-4.ensures.value) c.in_ok-nodes.ensures.on_circle

pub assembled-requires-clause-leading : goal.assembled-requires-clause-leading
assembled-requires-clause-leading c = c.in_ok-leading.ensures ∙ ap (map (λ n. leading c.in_ok-circle.circle n.ident)) c.as_slice-4.ensures.value
