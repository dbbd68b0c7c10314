use Rattle.std.proofs.Common.{◌<◌, string_bytes}
use Rattle.chord_scenario.specs.World.{node_count}
use Rattle.chord_play.specs.Answers.{ident_line}
use Rattle.chord_play.proofs.Idents.{one_more}
use Rattle.chord_play.proofs.questions.ids_answer.Goals as goal

pub loop-node-preserved : goal.loop-node-preserved
loop-node-preserved c =
    let sc = c.args.scenario.now in
    let at = c.loop-node.node in
    let within : at < node_count sc = rw (← c.nodes-node-end.ensures) c.loop-node-test.true in
    one_more (ident_line sc) (string_bytes c.loop-node.answer) (string_bytes c.push_ident.new.answer) _ at (node_count sc) within
    c.in_ok-push_ident.ensures c.loop-node.invariant
