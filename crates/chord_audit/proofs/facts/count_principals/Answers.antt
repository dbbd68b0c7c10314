use Rattle.std.proofs.Common.{◌∙◌, ◌&&◌, ℕ, not, ap, arith}
use Rattle.chord_audit.specs.Tables.{is_marked, is_marked_rank}
use Rattle.chord_audit.proofs.Lists.{counts_one, counts_none, counts_below, both_true, first_false, second_false}
use Rattle.chord_audit.proofs.facts.count_principals.Goals as goal
use Rattle.chord_audit.proofs.facts.count_principals.Goals.{
  then-members-node+then-not-passed-ranks,
  else-members-node,
  else-members-node-via-then-members-node+else-not-passed-ranks,
  else-members-node-via-else-members-node,
}

pub overflow_add-count : goal.overflow_add-count
overflow_add-count c =
    omega (
      arith,
      counts_below (λ n. is_marked c.args.members.now n && not (is_marked_rank c.args.ranks.now c.args.passed.now n)) c.loop-node.node
          c.loop-node.count c.loop-node.invariant,
    )

pub loop-node-preserved : goal.loop-node-preserved
loop-node-preserved c =
    let n = c.loop-node.node in let count = c.loop-node.count in
    let member = is_marked c.args.members.now n in let free = not (is_marked_rank c.args.ranks.now c.args.passed.now n) in
    let p = λ (n : ℕ). is_marked c.args.members.now n && not (is_marked_rank c.args.ranks.now c.args.passed.now n) in
    elim c.if-members-node.branch [
      | then-members-node+then-not-passed-ranks w ↦ w.count-is ∙ counts_one p n count c.loop-node.invariant
          (both_true member free w.if-members-node.true (ap not w.if-not-passed-ranks.true))
      | else-members-node w ↦ elim w.else-members-node.branch [
        | else-members-node-via-then-members-node+else-not-passed-ranks v ↦ w.count-is
            ∙ counts_none p n count c.loop-node.invariant (second_false member free (ap not v.if-not-passed-ranks.false))
        | else-members-node-via-else-members-node v ↦ w.count-is ∙ counts_none p n count c.loop-node.invariant (first_false member free v.if-members-node.false)
      ]
    ]
