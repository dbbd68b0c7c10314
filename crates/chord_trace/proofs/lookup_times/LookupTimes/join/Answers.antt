use Rattle.std.proofs.Common.{ℕ, ◌≤◌, List, ap, arith, cond, count_by, get_or, length, take_all}
use Rattle.std.proofs.lemmas.List.Sums.{sum_by_more}
use Rattle.chord_trace.specs.LookupTimes.{counted}
use Rattle.chord_trace.specs.declared.lookup_times.TimeCount.{TimeCount}
use Rattle.chord_trace.proofs.Additive.{count_by-append}
use Rattle.chord_trace.proofs.lookup_times.LookupTimes.join.Goals as goal

pub loop-entry-preserved : goal.loop-entry-preserved
loop-entry-preserved c = λ test.
    let short = c.args.other.now.short in let i = c.loop-entry.entry-index in
    let none : TimeCount = record { us = 0; count = 0 } in
    let weight : TimeCount → ℕ = λ x. cond (test x.us) x.count 0 in
    omega (
      arith,
      c.loop-entry.invariant test,
      c.in_ok-push.ensures.more test,
      ap (λ (es : List TimeCount). weight (get_or es i none)) c.deref-entry-items.ensures.value,
      sum_by_more weight short.items i none (omega (arith, c.loop-entry-test.true, c.deref-entry-items.ensures.len, short.ok.0)),
    )

pub returns : goal.returns
returns c = λ test.
    let short = c.args.other.now.short in let i = c.loop-entry.entry-index in let mine = c.loop-entry.self.long.items in
    let all : length short.items ≤ i = omega (arith, c.loop-entry-test.false, c.deref-entry-items.ensures.len, short.ok.0) in
    omega (
      arith,
      c.loop-entry.invariant test,
      ap (counted test) (take_all i short.items all),
      ap (count_by test) c.in_ok-extend_from_slice.ensures.items,
      count_by-append test mine c.as_slice.result.now,
      ap (count_by test) c.as_slice.ensures.value,
    )
