use Rattle.std.proofs.Common.{◌≡◌, ◌+◌, ◌<◌, ◌∙◌, List, None, Some, ap, arith, get_or, length, subst, sym}
use Rattle.std.specs.BinaryHeap.{IsHeap, heap_items}
use Rattle.des_team.proofs.Heads.{AreHeads, all_heads, head_put, head_skipped}
use Rattle.des_team.specs.Heads.{entries_at, head_at, head_cmp}
use Rattle.des_team.specs.Outputs.{IsMarked}
use Rattle.des_team.specs.declared.output.Head.{Head}
use Rattle.des_team.proofs.output.heads_of.Goals as goal
use Rattle.des_team.proofs.output.heads_of.Goals.{in-Some+in_ok-push, in_default}

pub loop-part-preserved : goal.loop-part-preserved
loop-part-preserved c =
    let i = c.loop-part.invariant in
    let part = c.loop-part.part in
    let o = get_or c.args.outputs.now part c.index-outputs-part.result in
    elim c.match-head_at.branch [
      | in-Some+in_ok-push w ↦ record {
        heap = subst (λ (hs : List Head). IsHeap head_cmp hs) (sym (ap heap_items w.heads-is)) (w.in_ok-push.ensures.heap_order i.heap);
        heads = λ lists are.
            let lt : part < length lists = omega (arith, are.long) in
            let is : IsMarked (entries_at lists part) o = are.each part c.index-outputs-part.result lt in
            let made : Some w.in-Some.head ≡ head_at o.marks.items part 0 0 =
            w.in-Some.ensures ∙ ap (λ l. head_at l part 0 0) c.as_slice-marks.ensures.value in
            subst (AreHeads lists (part + 1)) (sym (ap heap_items w.heads-is))
            (head_put lists part o _ _ w.in-Some.head lt is made w.in_ok-push.ensures.permutation (i.heads lists are));
      }
      | in_default w ↦ record {
        heap = subst (λ (hs : List Head). IsHeap head_cmp hs) (sym (ap heap_items w.heads-is)) i.heap;
        heads = λ lists are.
            let lt : part < length lists = omega (arith, are.long) in
            let is : IsMarked (entries_at lists part) o = are.each part c.index-outputs-part.result lt in
            let made : None ≡ head_at o.marks.items part 0 0 =
            w.in_default.ensures ∙ ap (λ l. head_at l part 0 0) c.as_slice-marks.ensures.value in
            subst (AreHeads lists (part + 1)) (sym (ap heap_items w.heads-is)) (head_skipped lists part o _ lt is made (i.heads lists are));
      }
    ]

pub returns-clause-heads : goal.returns-clause-heads
returns-clause-heads c = λ lists are. (c.loop-part.invariant.heads lists are).each

pub returns-clause-same : goal.returns-clause-same
returns-clause-same c = λ lists are.
    all_heads lists c.loop-part.part (heap_items c.loop-part.heads) (omega (arith, are.long)) (c.loop-part.invariant.heads lists are)
