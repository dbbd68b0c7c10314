-- A list has one median, and the pieces give all other numbers, so a trace has one report.
use Rattle.std.proofs.Common.{◌≡◌, ◌∙◌, ℕ, ◌<◌, ◌≤◌, Bool, true, false, cond, nat_le, nat_lt, List, [], ◌∷◌, refl, ap, sym, arith, length, count_by}
use Rattle.std.specs.declared.cmp.Ordering.{Ordering}
use Rattle.std.specs.declared.cmp.Ordering.TheVariants.{Less, Equal, Greater}
use Rattle.std.specs.Cmp.{ranks}
use Rattle.std.specs.Ordering.{nat_cmp, MatchOrdering}
use Rattle.std.proofs.lemmas.Bool.Decides.{nat_tests}
use Rattle.std.proofs.lemmas.List.Sums.{sum_by-le-sum_by}
use Rattle.chord_trace.specs.Numbers.{IsMedian, times_of}
use Rattle.chord_trace.specs.Report.{found_lookups, report_with}
use Rattle.chord_trace.proofs.report.reports_are_unique.Goals as goal

-- what is at most a lies below a greater b
count-le : (ns : List ℕ) (a b : ℕ) → a < b → count_by (λ n. nat_le n a) ns ≤ count_by (λ n. nat_lt n b) ns
count-le ns a b lt = sum_by-le-sum_by (λ n. cond (nat_le n a) 1 0) (λ n. cond (nat_lt n b) 1 0) ns (λ n. each n (nat_le n a) (nat_lt n b) refl refl)
  where
    each : (n : ℕ) (p q : Bool) → nat_le n a ≡ p → nat_lt n b ≡ q → cond {A = ℕ} p 1 0 ≤ cond {A = ℕ} q 1 0
    each n true true e f = omega arith
    each n true false e f = absurd (grind (arith, nat_tests))
    each n false q e f = omega arith

not_below : (ns : List ℕ) (a b : ℕ) → 0 < length ns → IsMedian ns a → IsMedian ns b → a < b → ⊥
not_below ns a b some first second lt = omega (arith, first.up_to, second.below some, count-le ns a b lt)

medians_are_unique : (ns : List ℕ) (a b : ℕ) → IsMedian ns a → IsMedian ns b → a ≡ b
medians_are_unique [] a b first second = first.none refl ∙ sym (second.none refl)
medians_are_unique (n ∷ ns) a b first second = by (nat_cmp a b) (ranks a b)
  where
    by : (o : Ordering) → MatchOrdering o (a < b) (a ≡ b) (b < a) → a ≡ b
    by Less lt = absurd (not_below (n ∷ ns) a b (omega arith) first second lt)
    by Equal is = is
    by Greater gt = absurd (not_below (n ∷ ns) b a (omega arith) second first gt)

pub returns : goal.returns
returns c profile pieces a b first second =
    let same = medians_are_unique (times_of (found_lookups pieces)) a.us_median b.us_median first.us_median second.us_median in
    first.numbers ∙ ap (report_with profile pieces) same ∙ sym second.numbers
