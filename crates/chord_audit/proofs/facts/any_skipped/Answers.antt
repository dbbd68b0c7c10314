use Rattle.std.proofs.Common.{◌&&◌, ℕ, sym, arith, length}
use Rattle.chord_audit.specs.Tables.{is_marked, is_marked_rank}
use Rattle.chord_audit.proofs.Lists.{any_at, none_more, both_true, first_false, second_false}
use Rattle.chord_audit.proofs.facts.any_skipped.Goals as goal
use Rattle.chord_audit.proofs.facts.any_skipped.Goals.{else-ring-node-via-then-ring-node+else-skipped-ranks, else-ring-node-via-else-ring-node}

pub returns-then-skipped-ranks : goal.returns-then-skipped-ranks
returns-then-skipped-ranks c =
    let n = c.loop-node.node in let ring = c.args.ring.now in let ranks = c.args.ranks.now in let skipped = c.args.skipped.now in
    sym (any_at (λ (n : ℕ). is_marked ring n && is_marked_rank ranks skipped n) 0 (length ring) n (omega arith) (omega arith)
    (both_true (is_marked ring n) (is_marked_rank ranks skipped n) c.if-ring-node.true c.if-skipped-ranks.true))

pub loop-node-preserved : goal.loop-node-preserved
loop-node-preserved c =
    let n = c.loop-node.node in let ring = c.args.ring.now in let ranks = c.args.ranks.now in let skipped = c.args.skipped.now in
    let p = λ (n : ℕ). is_marked ring n && is_marked_rank ranks skipped n in
    elim c.else-ring-node.branch [
      | else-ring-node-via-then-ring-node+else-skipped-ranks w ↦ none_more p n c.loop-node.invariant
          (second_false (is_marked ring n) (is_marked_rank ranks skipped n) w.if-skipped-ranks.false)
      | else-ring-node-via-else-ring-node w ↦ none_more p n c.loop-node.invariant
          (first_false (is_marked ring n) (is_marked_rank ranks skipped n) w.if-ring-node.false)
    ]
