use Rattle.std.proofs.Common.{◌≡◌, ◌∙◌, Bool, inr, List, map, ℕ, Option, sym}
use Rattle.std.specs.Prelude.{◌==◌}
use Rattle.toml.specs.Data.{Members}
use Rattle.toml.specs.View.{table_view}
use Rattle.chord_scenario.specs.declared.fault.ScenarioFault.{ScenarioFault}
use Rattle.chord_scenario.specs.declared.key.FileKey.TheVariants as key
use Rattle.chord_scenario.specs.declared.setting.Node.{Node}
use Rattle.chord_scenario.specs.Faults.{first_answer}
use Rattle.chord_scenario.specs.Groups.{link_questions}
use Rattle.chord_scenario.specs.Rows.{rows_of}
use Rattle.chord_scenario.specs.Sections.{Section, section_of}
use Rattle.chord_scenario.specs.Values.{number_at}
use Rattle.chord_scenario.proofs.reader.checked_rows.Goals as goal

-- what was found with the numbers of the file is the first fault of its commands and rows, each for itself
same_found : (top : Members) (ss : List Section) (found : Option ScenarioFault) (extended : Bool) (list duration : ℕ) (nodes own : List Node)
    (text csv : List ℕ)
    → found ≡ first_answer (link_questions extended list duration ss nodes (rows_of text)) → extended ≡ (number_at key.Profile top == 4)
    → list ≡ number_at key.List top → duration ≡ number_at key.DurationUs top → nodes ≡ own → text ≡ csv
    → found
    ≡ first_answer (link_questions (number_at key.Profile top == 4) (number_at key.List top) (number_at key.DurationUs top) ss own (rows_of csv))
same_found top ss found extended list duration nodes own text csv is profile few end lent same =
    is ∙ (λ i. first_answer (link_questions (profile i) (few i) (end i) ss (lent i) (rows_of (same i))))

pub returns-in-Some-clause-refused : goal.returns-in-Some-clause-refused
returns-in-Some-clause-refused c =
    inr (sym (same_found (table_view c.args.top.now) (map section_of c.args.tables.now) c.link_fault.result c.is_extended.result
    c.number_at-list.result c.number_at-duration.result c.in_ok-rows.rows.names.nodes.now c.args.names.nodes.now c.in_ok-rows.rows.text.now
    c.args.csv.now c.link_fault.ensures c.is_extended.ensures c.number_at-list.ensures.value c.number_at-duration.ensures.value
    c.in_ok-rows.ensures.nodes c.in_ok-rows.ensures.text) ∙ c.in-Some.is)

pub returns-clause-sound : goal.returns-clause-sound
returns-clause-sound c =
    sym (same_found (table_view c.args.top.now) (map section_of c.args.tables.now) c.link_fault.result c.is_extended.result
    c.number_at-list.result c.number_at-duration.result c.in_ok-rows.rows.names.nodes.now c.args.names.nodes.now c.in_ok-rows.rows.text.now
    c.args.csv.now c.link_fault.ensures c.is_extended.ensures c.number_at-list.ensures.value c.number_at-duration.ensures.value
    c.in_ok-rows.ensures.nodes c.in_ok-rows.ensures.text) ∙ c.in-None.is
