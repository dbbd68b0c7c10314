use Rattle.std.proofs.Common.{rules}
use Rattle.chord_trace.proofs.audit_counts.AuditCounts.add.Goals as goal

pub returns : goal.returns
returns c = search rules
