use Rattle.std.proofs.Common.{◌≡◌, ◌≢◌, rules, ◌∙◌, length, ap}
use Rattle.des_machine.proofs.Runs.{run_refused}
use Rattle.des_model.specs.Windows.{Division}
use Rattle.des_dealt.proofs.EventCounts.{all_first, as_long}
use Rattle.des_dealt.proofs.dealt_run.run_crew_dealt.Goals as goal

pub of_list-whole-requires-clause-below : goal.of_list-whole-requires-clause-below
of_list-whole-requires-clause-below g c = all_first c.nodes.result c.in_ok-vec.field-0.items (c.in_ok-vec.ensures.items_if_clones_equal (λ _ e. e))

-- a division that names each node is not refused
pub returns-in_err-engine-clause-bad : goal.returns-in_err-engine-clause-bad
returns-in_err-engine-clause-bad g c is =
    let nodes = (g.M.Machine.model c.args.machine.now).nodes in
    let noughts = c.in_ok-vec.ensures.items_if_clones_equal (λ _ e. e) in
    let long : length c.of_list-whole.result.of_node ≡ nodes = ap (λ (d : Division). length d.of_node) c.of_list-whole.ensures
    ∙ (as_long c.nodes.result c.in_ok-vec.field-0.items noughts ∙ c.nodes.ensures) in
    let other : length c.of_list-whole.result.of_node ≢ nodes = search (rules, is, c.from_residual-in_err-engine.ensures, c.in_err-engine.ensures.bad) in
    absurd (other long)

pub deal_windows-outcome-requires-clause-at : goal.deal_windows-outcome-requires-clause-at
deal_windows-outcome-requires-clause-at g c _ _ = c.in_ok-engine.ensures.at _

pub returns-in_err-engine-clause-run : goal.returns-in_err-engine-clause-run
returns-in_err-engine-clause-run g c =
    let k = c.args.machine.now in
    run_refused (g.S.Scribe.text k) (g.M.Machine.model k) (g.S.Scribe.IsReport k) _ _ c.in_err-engine.field-0.0
    (search (rules, c.from_residual-in_err-engine.ensures)) (λ over. search (rules, over, c.in_err-engine.ensures.only))

pub returns-clause-run : goal.returns-clause-run
returns-clause-run g c = c.deal_windows-outcome.ensures.run

pub returns-clause-writer : goal.returns-clause-writer
returns-clause-writer g c = c.deal_windows-outcome.ensures.writer

pub returns-clause-bad : goal.returns-clause-bad
returns-clause-bad g c = c.deal_windows-outcome.ensures.bad
