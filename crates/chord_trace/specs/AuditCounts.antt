-- The number of audits, and how many have each fault.
use Rattle.std.specs.Prelude.{◌+◌, ◌≤◌, ◌==◌, not, List, count_by, length}
use Rattle.chord_audit.specs.declared.audit_line.AuditLine.{AuditLine}
use Rattle.chord_trace.specs.declared.audit_counts.AuditCounts.{AuditCounts}

-- how many these audits are, and how many of them have each fault
abbrev pub audit_counts_in : List AuditLine → AuditCounts
audit_counts_in audits = record {
  audits = length audits;
  ringless = count_by (λ audit. audit.ring == 0) audits;
  unordered = count_by (λ audit. not audit.ordered) audits;
  insufficient = count_by (λ audit. not audit.sufficient) audits;
}

-- two counts added, number by number
abbrev pub audits_plus : AuditCounts → AuditCounts → AuditCounts
audits_plus a b = record {
  audits = a.audits + b.audits;
  ringless = a.ringless + b.ringless;
  unordered = a.unordered + b.unordered;
  insufficient = a.insufficient + b.insufficient;
}

-- no count is above that of all audits
pub record AreAmong (c : AuditCounts) : Type 0 where
  pub ringless : c.ringless ≤ c.audits
  pub unordered : c.unordered ≤ c.audits
  pub insufficient : c.insufficient ≤ c.audits
