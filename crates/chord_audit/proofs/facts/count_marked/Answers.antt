use Rattle.std.proofs.Common.{◌∙◌, arith}
use Rattle.chord_audit.specs.Tables.{is_marked}
use Rattle.chord_audit.proofs.Lists.{counts_one, counts_none, counts_below}
use Rattle.chord_audit.proofs.facts.count_marked.Goals as goal
use Rattle.chord_audit.proofs.facts.count_marked.Goals.{then-marks-node, else-marks-node}

pub overflow_add-count : goal.overflow_add-count
overflow_add-count c =
    omega (arith, counts_below (is_marked c.args.marks.now) c.loop-node.node c.loop-node.count c.loop-node.invariant)

pub loop-node-preserved : goal.loop-node-preserved
loop-node-preserved c =
    let p = is_marked c.args.marks.now in let n = c.loop-node.node in let count = c.loop-node.count in
    elim c.if-marks-node.branch [
      | then-marks-node w ↦ w.count-is ∙ counts_one p n count c.loop-node.invariant w.if-marks-node.true
      | else-marks-node w ↦ w.count-is ∙ counts_none p n count c.loop-node.invariant w.if-marks-node.false
    ]
