use Rattle.std.proofs.Common.{◌≡◌, ◌∙◌, sym, ap, nat_lt, Some, option_map, option_copied}
use Rattle.std.proofs.lemmas.List.{drop_all}
use Rattle.std.proofs.lemmas.Option.{slice_get-get_or}
use Rattle.chord_scenario.specs.declared.setting.Node.{Node}
use Rattle.chord_scenario.specs.declared.fault.ScenarioFault.TheVariants.{LatencyBelowWindow}
use Rattle.chord_scenario.specs.Search.{first_meeting}
use Rattle.chord_scenario.specs.Rows.{rows_of}
use Rattle.chord_scenario.specs.Faults.{latency_by_rows, latency_below_window}
use Rattle.chord_scenario.proofs.WindowCheckLemmas.{meeting-here, meeting-next}
use Rattle.chord_scenario.proofs.NoRows.{no_rows, far_by_default}
use Rattle.chord_scenario.proofs.window_check.latency_below_window.Goals as goal

pub returns-then-window-default : goal.returns-then-window-default
returns-then-window-default c =
    let rows = rows_of c.args.rows.now.text.now in
    let none = no_rows rows c.is_empty.result c.is_empty.ensures c.if-is_empty.true in
    sym (far_by_default c.args.window c.args.default c.args.nodes.now rows none c.if-window-default.true)

pub near_after-requires-clause-here : goal.near_after-requires-clause-here
near_after-requires-clause-here c =
    slice_get-get_or c.args.nodes.now c.loop-i.i c.index-nodes-i.result c.loop-i-test.true ∙ ap Some (sym c.index-nodes-i.is)

pub returns-in-Some : goal.returns-in-Some
unfolding latency_below_window
returns-in-Some c =
    let meets = λ (x y : Node). nat_lt (latency_by_rows c.args.default (rows_of c.args.rows.now.text.now) x y) c.args.window in
    let one : c.in_ok-first.first ≡ c.index-nodes-i.result.name = c.in_ok-first.ensures ∙ c.as_str.ensures in
    let two : c.in_ok-second.second ≡ c.in-Some.other.now.name = c.in_ok-second.ensures ∙ c.as_str-in-Some.ensures in
    let first = meeting-here meets c.args.nodes.now c.loop-i.i c.index-nodes-i.result c.in-Some.other.now c.loop-i.invariant c.loop-i-test.true
    c.index-nodes-i.is (sym c.near_after.ensures ∙ ap option_copied c.in-Some.is) in
    rw (one, two) (ap (option_map (λ (p : Node × Node). LatencyBelowWindow p.0.name p.1.name)) first)

pub loop-i-preserved : goal.loop-i-preserved
loop-i-preserved c =
    let meets = λ (x y : Node). nat_lt (latency_by_rows c.args.default (rows_of c.args.rows.now.text.now) x y) c.args.window in
    meeting-next meets c.args.nodes.now c.loop-i.i c.index-nodes-i.result c.loop-i.invariant c.loop-i-test.true c.index-nodes-i.is
    (sym c.near_after.ensures ∙ ap option_copied c.in_default.is)

pub returns : goal.returns
unfolding latency_below_window
returns c =
    let meets = λ (x y : Node). nat_lt (latency_by_rows c.args.default (rows_of c.args.rows.now.text.now) x y) c.args.window in
    let none = ap (first_meeting meets) (sym (drop_all c.loop-i.i c.args.nodes.now c.loop-i-test.false)) ∙ c.loop-i.invariant in
    ap (option_map (λ (p : Node × Node). LatencyBelowWindow p.0.name p.1.name)) none
