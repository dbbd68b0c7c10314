use Rattle.std.proofs.Common.{◌≡◌, ◌∙◌, ℕ, List, Option, sym, ap, map}
use Rattle.std.specs.Option.{option_or}
use Rattle.chord_scenario.specs.declared.fault.ScenarioFault.TheVariants.{SelfLink}
use Rattle.chord_scenario.specs.declared.row.RowLink.{RowLink}
use Rattle.chord_scenario.specs.declared.setting.Node.{Node}
use Rattle.chord_scenario.specs.Faults.{row_joins_itself, self_link}
use Rattle.chord_scenario.specs.Latencies.{kept_link, keeps_itself}
use Rattle.chord_scenario.specs.Rows.{rows_of}
use Rattle.chord_scenario.specs.Search.{row_fault}
use Rattle.chord_scenario.proofs.Kept.{kept_itself, row_fault-kept}
use Rattle.chord_scenario.proofs.link_check.self_link.Goals as goal

module _ (nodes : List Node) (text : List ℕ) where
  -- the fault of the rows that are kept is that of the rows
  of_rows : (links : List (Option RowLink)) → links ≡ map (kept_link nodes) (rows_of text)
      → row_fault SelfLink keeps_itself links ≡ row_fault SelfLink row_joins_itself (rows_of text)
  of_rows links kept = ap (row_fault SelfLink keeps_itself) kept
      ∙ row_fault-kept SelfLink (kept_link nodes) keeps_itself row_joins_itself (kept_itself nodes) (rows_of text)

pub returns-then-extended : goal.returns-then-extended
unfolding self_link
returns-then-extended c =
    let rows = c.args.rows.now in
    rw c.if-extended.true (c.self_link_in_rows.ensures ∙ of_rows rows.names.nodes.now rows.text.now c.deref.result.now (c.deref.ensures.value ∙ rows.kept))

pub returns-in-None : goal.returns-in-None
unfolding self_link
returns-in-None c =
    let rows = c.args.rows.now in
    let all = c.self_link_in_rows-in-None.ensures ∙ of_rows rows.names.nodes.now rows.text.now c.deref-in-None.result.now (c.deref-in-None.ensures.value ∙ rows.kept) in
    rw c.if-extended.false (all ∙ sym (ap (λ o. option_or o (row_fault SelfLink row_joins_itself (rows_of rows.text.now)))
    (sym c.self_link_in_commands.ensures ∙ c.in-None.is)))
