-- The report of a trace.
use Rattle.std.specs.Prelude.{◌≡◌, ℕ, ◌+◌, ◌-◌, List, count_by, length, sum}
use Rattle.std.specs.List.{filter_map}
use Rattle.chord_trace.specs.AuditCounts.{audit_counts_in}
use Rattle.chord_trace.specs.Counts.{counts_in}
use Rattle.chord_trace.specs.Numbers.{IsMedian, greatest, least, hops_of, timeouts_of, times_of}
use Rattle.chord_trace.specs.Kinds.{is_lookup, is_found, is_lost, found_in}
use Rattle.chord_trace.specs.Pieces.{blocks_of, lines_of, audits_of}
use Rattle.chord_trace.specs.declared.piece.Piece.{Piece}
use Rattle.chord_trace.specs.declared.report.Report.{Report}
use Rattle.chord_trace.specs.declared.found_lookups.Found.{Found}

-- the lookups of a trace that were found
abbrev pub found_lookups : List Piece → List Found
found_lookups pieces = filter_map found_in (lines_of pieces)

-- the report of the trace of these pieces in a profile, if its median is this
abbrev pub report_with : (profile : ℕ) → List Piece → (median : ℕ) → Report
report_with profile pieces median = record {
  events = length (blocks_of pieces);
  lines = counts_in (lines_of pieces);
  -- the lookups without an end, or 0 if there are more ends than lookups
  unfinished = count_by is_lookup (lines_of pieces) - (count_by is_found (lines_of pieces) + count_by is_lost (lines_of pieces));
  hops_sum = sum (hops_of (found_lookups pieces));
  hops_greatest = greatest (hops_of (found_lookups pieces));
  timeouts_sum = sum (timeouts_of (found_lookups pieces));
  us_sum = sum (times_of (found_lookups pieces));
  us_least = least (times_of (found_lookups pieces));
  us_median = median;
  us_greatest = greatest (times_of (found_lookups pieces));
  audits = audit_counts_in (audits_of pieces);
  profile = profile;
}

-- the report of the trace of these pieces in a profile
pub record IsReportOf (profile : ℕ) (pieces : List Piece) (report : Report) : Type 0 where
  pub numbers : report ≡ report_with profile pieces report.us_median
  pub us_median : IsMedian (times_of (found_lookups pieces)) report.us_median
