-- A report of pieces is one of the same pieces in another order.
use Rattle.chord_trace.proofs.Reports.{reordered}
use Rattle.chord_trace.proofs.report.reports_need_no_order.Goals as goal

pub returns : goal.returns
returns c profile pieces others report moved is = reordered profile pieces others report moved is
