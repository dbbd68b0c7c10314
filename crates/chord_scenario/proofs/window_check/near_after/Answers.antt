use Rattle.std.proofs.Common.{◌∙◌, ◌<◌, sym, ap, length, nat_lt, arith, rules}
use Rattle.std.proofs.lemmas.Bool.{lt-ltb, le-ltb}
use Rattle.chord_scenario.specs.declared.setting.Node.{Node}
use Rattle.chord_scenario.specs.Rows.{rows_of}
use Rattle.chord_scenario.specs.Faults.{latency_by_rows}
use Rattle.chord_scenario.specs.Latencies.{square_or_zeros}
use Rattle.chord_scenario.proofs.WindowCheckLemmas.{latency_in-between, find-here, find-next, at_place}
use Rattle.chord_scenario.proofs.window_check.near_after.Goals as goal

pub returns-then-latency_in-by : goal.returns-then-latency_in-by
returns-then-latency_in-by c =
    let nodes = c.args.nodes.now in
    let y = c.index-nodes-j.result in
    let before : c.args.i < length nodes = omega arith in
    let same = latency_in-between nodes (rows_of c.args.rows.now.text.now) (square_or_zeros (length nodes) c.args.by.now.cells.now) c.args.by.now.default c.args.i c.loop-j.j c.args.node.now y
    c.requires.square c.requires.good c.requires.distinct before c.loop-j-test.true
    (at_place nodes c.args.i c.args.node.now c.requires.here before) c.index-nodes-j.is in
    find-here (λ (z : Node). nat_lt (latency_by_rows c.args.by.now.default (rows_of c.args.rows.now.text.now) c.args.node.now z) c.args.by.now.window) nodes
    c.loop-j.j y _ c.loop-j.invariant c.loop-j-test.true c.index-nodes-j.is
    (ap (λ v. nat_lt v c.args.by.now.window) (sym (c.latency_in.ensures ∙ same)) ∙ lt-ltb c.latency_in.result c.args.by.now.window c.if-latency_in-by.true)

pub loop-j-preserved : goal.loop-j-preserved
loop-j-preserved c =
    let nodes = c.args.nodes.now in
    let y = c.index-nodes-j.result in
    let before : c.args.i < length nodes = omega arith in
    let same = latency_in-between nodes (rows_of c.args.rows.now.text.now) (square_or_zeros (length nodes) c.args.by.now.cells.now) c.args.by.now.default c.args.i c.loop-j.j c.args.node.now y
    c.requires.square c.requires.good c.requires.distinct before c.loop-j-test.true
    (at_place nodes c.args.i c.args.node.now c.requires.here before) c.index-nodes-j.is in
    find-next (λ (z : Node). nat_lt (latency_by_rows c.args.by.now.default (rows_of c.args.rows.now.text.now) c.args.node.now z) c.args.by.now.window) nodes
    c.loop-j.j y _ c.loop-j.invariant c.loop-j-test.true c.index-nodes-j.is
    (ap (λ v. nat_lt v c.args.by.now.window) (sym (c.latency_in.ensures ∙ same)) ∙ le-ltb c.latency_in.result c.args.by.now.window c.if-latency_in-by.false)

pub loop-j-init : goal.loop-j-init
loop-j-init c = search rules
