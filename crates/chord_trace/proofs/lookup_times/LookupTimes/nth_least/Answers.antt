use Rattle.std.proofs.Common.{◌≡◌, ℕ, ◌≤◌, false, nat_lt, subst, arith}
use Rattle.std.proofs.lemmas.Bool.Decides.{nat_tests}
use Rattle.chord_trace.proofs.Timed.{timed-none}
use Rattle.chord_trace.proofs.lookup_times.LookupTimes.nth_least.Goals as goal

none_below : (n : ℕ) → nat_lt n 0 ≡ false
none_below n = grind (arith, nat_tests)

pub loop-least-init : goal.loop-least-init
loop-least-init c = (omega arith, omega (arith, timed-none (λ time. nat_lt time 0) none_below c.args.self.now, c.requires.first), λ all. all)

pub loop-least-preserved : goal.loop-least-preserved
loop-least-preserved c =
    let i = c.loop-least.invariant in
    (omega arith, i.1, λ all. subst (λ times. c.args.n ≤ times) c.count_up_to.ensures c.if-count_up_to-n.false)
