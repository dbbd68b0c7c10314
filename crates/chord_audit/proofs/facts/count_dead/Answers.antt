use Rattle.std.proofs.Common.{◌∙◌, ◌&&◌, ℕ, is_none, not, ap, arith}
use Rattle.chord_audit.specs.Tables.{is_marked, node_at}
use Rattle.chord_audit.proofs.Lists.{counts_one, counts_none, counts_below, both_true, first_false, second_false}
use Rattle.chord_audit.proofs.facts.count_dead.Goals as goal
use Rattle.chord_audit.proofs.facts.count_dead.Goals.{
  then-members-node+then-is_none,
  else-members-node,
  else-members-node-via-then-members-node+else-is_none,
  else-members-node-via-else-members-node,
}

pub overflow_add-count : goal.overflow_add-count
overflow_add-count c =
    omega (
      arith,
      counts_below (λ n. is_marked c.args.members.now n && is_none (node_at c.args.best.now n)) c.loop-node.node c.loop-node.count
          c.loop-node.invariant,
    )

pub loop-node-preserved : goal.loop-node-preserved
loop-node-preserved c =
    let n = c.loop-node.node in let count = c.loop-node.count in
    let member = is_marked c.args.members.now n in let none = is_none (node_at c.args.best.now n) in
    let p = λ (n : ℕ). is_marked c.args.members.now n && is_none (node_at c.args.best.now n) in
    elim c.if-members-node.branch [
      | then-members-node+then-is_none w ↦ w.count-is ∙ counts_one p n count c.loop-node.invariant
          (both_true member none w.if-members-node.true (ap not w.if-is_none.ensures))
      | else-members-node w ↦ elim w.else-members-node.branch [
        | else-members-node-via-then-members-node+else-is_none v ↦ w.count-is
            ∙ counts_none p n count c.loop-node.invariant (second_false member none (ap not v.if-is_none.ensures))
        | else-members-node-via-else-members-node v ↦ w.count-is ∙ counts_none p n count c.loop-node.invariant (first_false member none v.if-members-node.false)
      ]
    ]
