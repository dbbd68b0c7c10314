use Rattle.std.proofs.Common.{◌∙◌, Bool, ℕ, nat_le, ap, arith, count_by}
use Rattle.chord_trace.specs.LookupTimes.{counted}
use Rattle.chord_trace.proofs.Timed.{timed-le}
use Rattle.chord_trace.proofs.lookup_times.LookupTimes.count_up_to.Goals as goal

pub overflow_add-result : goal.overflow_add-result
overflow_add-result c =
    let test : ℕ → Bool = λ time. nat_le time c.args.us in
    let short = c.count_short_up_to.ensures ∙ ap (counted test) c.deref.ensures.value in
    let long = c.count_long_up_to.ensures ∙ ap (count_by test) c.deref-2.ensures.value in
    omega (arith, short, long, timed-le test c.args.self.now, c.requires)
