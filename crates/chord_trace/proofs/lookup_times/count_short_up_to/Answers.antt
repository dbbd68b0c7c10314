use Rattle.std.proofs.Common.{◌≡◌, ◌+◌, Bool, ℕ, true, cond, get_or, nat_le, arith}
use Rattle.std.proofs.lemmas.Bool.Decides.{nat_tests}
use Rattle.std.proofs.lemmas.List.Sums.{sum_by_more, sum_by-take-le}
use Rattle.chord_trace.specs.declared.lookup_times.TimeCount.{TimeCount}
use Rattle.chord_trace.proofs.Timed.{cond-same, counted-le}
use Rattle.chord_trace.proofs.lookup_times.count_short_up_to.Goals as goal

pub overflow_add-count : goal.overflow_add-count
overflow_add-count c =
    let es = c.args.entries.now in
    let i = c.loop-entry.entry-index in
    let none : TimeCount = record { us = 0; count = 0 } in
    let e : TimeCount = get_or es i none in
    let test : ℕ → Bool = λ time. nat_le time c.args.us in
    let weight : TimeCount → ℕ = λ x. cond (test x.us) x.count 0 in
    let passes : test e.us ≡ true = grind (arith, nat_tests, c.from.ensures, c.if-from-us.true) in
    omega (
      arith,
      c.requires,
      c.from-count.ensures,
      c.loop-entry.invariant,
      cond-same (test e.us) true e.count passes,
      sum_by_more weight es i none c.loop-entry-test.true,
      sum_by-take-le weight es (i + 1),
      counted-le test es,
    )
