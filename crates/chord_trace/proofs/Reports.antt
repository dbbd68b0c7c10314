-- The report of a trace does not depend on the order of its pieces.
use Rattle.std.proofs.Common.{◌≡◌, ◌∙◌, ℕ, ◌+◌, ◌-◌, Bool, List, cond, nat_le, nat_lt, arith, count_by, length}
use Rattle.std.specs.List.Sorted.{IsPermutation}
use Rattle.chord_audit.specs.declared.audit_line.AuditLine.{AuditLine}
use Rattle.chord_event.specs.declared.line.Line.{Line}
use Rattle.chord_trace.specs.AuditCounts.{audit_counts_in}
use Rattle.chord_trace.specs.Counts.{counts_in}
use Rattle.chord_trace.specs.Kinds.{is_lookup, is_found, is_lost}
use Rattle.chord_trace.specs.Numbers.{IsMedian, hops_of, times_of}
use Rattle.chord_trace.specs.Pieces.{lines_of, audits_of}
use Rattle.chord_trace.specs.Report.{IsReportOf, report_with, found_lookups}
use Rattle.chord_trace.specs.declared.piece.Piece.{Piece}
use Rattle.chord_trace.specs.declared.report.Report.{Report}
use Rattle.chord_trace.proofs.Additive.{same_number, blocks-add, audits-add, audits_by-add, lines_by-add, hops_by-add, timeouts_by-add, times_by-add, times-add}
use Rattle.chord_trace.proofs.Bounds.{same_greatest, same_least}

same_median : (ns ms : List ℕ) (m : ℕ) → length ns ≡ length ms
    → count_by (λ n. nat_lt n m) ns ≡ count_by (λ n. nat_lt n m) ms → count_by (λ n. nat_le n m) ns ≡ count_by (λ n. nat_le n m) ms
    → IsMedian ns m → IsMedian ms m
same_median ns ms m len below up_to is = record {
  none = λ e. is.none (len ∙ e);
  below = λ some. rw (← len, ← below) (is.below (omega (arith, some, len)));
  up_to = rw (← len, ← up_to) is.up_to;
}

-- all numbers but the median are those of the other order
numbers : (profile : ℕ) (pieces others : List Piece) (median : ℕ) → IsPermutation pieces others
    → report_with profile pieces median ≡ report_with profile others median
numbers profile pieces others median moved =
    let lines : (p : Line → Bool) → count_by p (lines_of pieces) ≡ count_by p (lines_of others)
    = λ p. same_number _ (lines_by-add p) pieces others moved in
    let faults : (p : AuditLine → Bool) → count_by p (audits_of pieces) ≡ count_by p (audits_of others)
    = λ p. same_number _ (audits_by-add p) pieces others moved in
    let audits : length (audits_of pieces) ≡ length (audits_of others) = same_number _ audits-add pieces others moved in
    let hops = λ (f : ℕ → ℕ). same_number _ (hops_by-add f) pieces others moved in
    let times = λ (f : ℕ → ℕ). same_number _ (times_by-add f) pieces others moved in
    let counts : counts_in (lines_of pieces) ≡ counts_in (lines_of others) = simp lines in
    let audit_counts : audit_counts_in (audits_of pieces) ≡ audit_counts_in (audits_of others) = simp (faults, audits) in
    λ i. record {
      events = same_number _ blocks-add pieces others moved i;
      lines = counts i;
      unfinished = lines is_lookup i - (lines is_found i + lines is_lost i);
      hops_sum = hops (λ n. n) i;
      hops_greatest = same_greatest (hops_of (found_lookups pieces)) (hops_of (found_lookups others)) (λ k. hops (λ n. cond (nat_lt k n) 1 0)) i;
      timeouts_sum = same_number _ (timeouts_by-add (λ n. n)) pieces others moved i;
      us_sum = times (λ n. n) i;
      us_least = same_least (times_of (found_lookups pieces)) (times_of (found_lookups others))
          (same_number _ times-add pieces others moved) (λ k. times (λ n. cond (nat_lt n k) 1 0)) i;
      us_median = median;
      us_greatest = same_greatest (times_of (found_lookups pieces)) (times_of (found_lookups others)) (λ k. times (λ n. cond (nat_lt k n) 1 0)) i;
      audits = audit_counts i;
      profile = profile;
    }

pub reordered : (profile : ℕ) (pieces others : List Piece) (report : Report) → IsPermutation pieces others → IsReportOf profile pieces report
    → IsReportOf profile others report
reordered profile pieces others report moved is =
    let times = λ (f : ℕ → ℕ). same_number _ (times_by-add f) pieces others moved in
    record {
      numbers = is.numbers ∙ numbers profile pieces others report.us_median moved;
      us_median = same_median (times_of (found_lookups pieces)) (times_of (found_lookups others)) report.us_median (same_number _ times-add pieces others moved)
          (times (λ n. cond (nat_lt n report.us_median) 1 0)) (times (λ n. cond (nat_le n report.us_median) 1 0)) is.us_median;
    }
