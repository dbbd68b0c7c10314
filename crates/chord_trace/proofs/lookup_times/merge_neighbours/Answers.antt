use Rattle.std.proofs.Common.{◌≡◌, ◌∙◌, ℕ, ◌+◌, ◌-◌, cond, drop, ap, arith, sym}
use Rattle.std.proofs.lemmas.List.{drop-drop}
use Rattle.std.proofs.lemmas.List.Sums.{sum_by-drop_more}
use Rattle.chord_trace.specs.LookupTimes.{counted}
use Rattle.chord_trace.specs.declared.lookup_times.TimeCount.{TimeCount}
use Rattle.chord_trace.proofs.lookup_times.merge_neighbours.Goals as goal

pub loop-next-preserved : goal.loop-next-preserved
loop-next-preserved c =
    let i = c.loop-next.invariant in
    let es = c.loop-next.entries.items in
    let merged = c.loop-next.merged in
    let next = c.loop-next.next in
    let e = c.index-entry.result.now in
    let one = c.merge_one-merged in
    let new = one.new.entries.items in
    let at : next + 1 ≡ merged + 1 + (next - merged) = omega (arith, i.0) in
    let left : drop (next + 1) new ≡ drop (next + 1) es =
    ap (λ j. drop j new) at ∙ sym (drop-drop (next - merged) (merged + 1) new) ∙ ap (drop (next - merged)) one.ensures.rest
    ∙ drop-drop (next - merged) (merged + 1) es ∙ ap (λ j. drop j es) (sym at) in (
      omega (arith, i.0, one.ensures.few),
      one.ensures.length ∙ i.1,
      λ test.
          let weight : TimeCount → ℕ = λ x. cond (test x.us) x.count 0 in
          omega (
            arith,
            i.2 test,
            one.ensures.more test,
            ap (counted test) left,
            ap weight (sym c.index-entry.ensures),
            sum_by-drop_more weight es next e (omega (arith, c.loop-next-test.true, c.len-next-end.ensures, i.1)),
          ),
    )
