use Rattle.std.proofs.Common.{◌≡◌, ◌≢◌, ◌∙◌, length, ap, IfErr, Result, Ok, Err}
use Rattle.std.proofs.lemmas.List.FromFn.{length-map-range_with_len}
use Rattle.des_event.specs.declared.error.RunError.{RunError}
use Rattle.des_event.specs.declared.error.RunError.TheVariants as run
use Rattle.des_model.specs.Windows.{Division}
use Rattle.des_window.specs.Divisions.{dealt_part}
use Rattle.phold_rules.specs.declared.report.PholdReport.{PholdReport}
use Rattle.phold_rules.specs.declared.settings.Settings.{Settings}
use Rattle.phold.proofs.running.run_by.Goals as goal

-- the nodes are dealt out by a list that has an entry for each
pub returns-clause-only : goal.returns-clause-only
returns-clause-only g c = go c.run_team.result (λ is. (c.run_team.ensures.bad is).0 dealt)
  where
    dealt : length c.in_ok-division.division.of_node ≡ c.args.machine.now.nodes
    dealt = ap (λ (d : Division). length d.of_node) c.in_ok-division.ensures
        ∙ (length-map-range_with_len (dealt_part c.args.workers) 0 c.settings-nodes.result.nodes
        ∙ ap (λ (p : Settings). p.nodes) c.settings-nodes.ensures.same)

    go : (r : Result PholdReport RunError) → (r ≡ Err run.BadDivision → ⊥) → IfErr r (λ e. e ≢ run.BadDivision)
    go (Ok report) never = tt
    go (Err e) never = λ is. never (ap Err is)
